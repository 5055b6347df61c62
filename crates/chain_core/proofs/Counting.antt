-- What a group touches, counted by sets and by images.
use Rattle.std.proofs.Common.{◌≡◌, ◌≢◌, ℕ, zero, suc, ◌+◌, ◌-◌, ◌*◌, ◌/◌, ◌<◌, ◌≤◌, Bool, false, if◌then◌else◌, true, List, [], ◌∷◌, length, get_or, refl, sym, ◌∙◌, ap, arith, inl, inr, subst}
use Rattle.std.specs.Prelude.{All, None, Some, AllPairs, ◌↔◌, Any, Contains, filter, map, not, take}
use Rattle.std.specs.BTreeMap.{is_at}
use Rattle.std.specs.BTreeSet.{BTreeSet, IsOrdered, contains}
use Rattle.std.specs.List.{list_any}
use Rattle.std.specs.List.Sorted.{IsStrictlySortedBy}
use Rattle.std.specs.Ordering.{nat_cmp}
use Rattle.std.specs.declared.cmp.Ordering.TheVariants.{Less}
use Rattle.std.proofs.lemmas.Bool.{and_parts, cases_Bool, cases_lt}
use Rattle.std.proofs.lemmas.Bool.Decides.{nat_tests}
use Rattle.std.proofs.lemmas.List.{get_or-map, get_or-take, get_or_default, length-map, length-take, take-map}
use Rattle.std.proofs.lemmas.List.Elements.{All-head, All-from_recursion, All-tail, filter_passes}
use Rattle.std.proofs.lemmas.List.Kept.{AllPairs-filter}
use Rattle.std.proofs.lemmas.List.Sums.{length-filter}
use Rattle.std.proofs.lemmas.List.Folds.{Any-from_list_any, list_any-from_Any}
use Rattle.gate_journal.specs.Batch.{image_size, images_size}
use Rattle.gate_journal.specs.Image.{Image, is_zeros}
use Rattle.local_store.specs.About.{About, HasNoRoom, HasRoom}
use Rattle.version_table.specs.Held.{Held, applied_of, writes_upto}
use Rattle.version_table.specs.declared.kept.Kept.{Kept}
use Rattle.volume.specs.Volumes.{touches_agrees}
use Rattle.volume.specs.Writes.{Fits, IsTouched, Placed, touches}
use Rattle.chain_steps.specs.Node.{Commit, NodeState, durable_of}
use Rattle.chain_steps.specs.Steps.{AreImagesOf, Begins, IsGroup, blanks, group_size, is_written}
use Rattle.chain_core.proofs.Grouping.{does_more}
use Rattle.chain_core.proofs.Images.{Any-cases, Any-here, Any-later}
use Rattle.chain_core.specs.Groups.{IsBlank, IsGroupUpTo, IsTooMuch, IsTouchedList, MayTakeMore, TakeAtMost}

abbrev pub Ascend : List ℕ → Type 0
Ascend xs = AllPairs (λ x y. x < y) xs

-- the keys of a set ascend
less_is : (x y : ℕ) → nat_cmp x y ≡ Less → x < y
less_is x y is = grind (arith, nat_tests)

one_more : (x : ℕ) (xs : List ℕ) → All (λ y. nat_cmp x y ≡ Less) xs → Ascend xs → Ascend (x ∷ xs)
one_more x xs first rest zero zero d lt below = absurd (omega (arith, lt))
one_more x xs first rest zero (suc j) d lt below = less_is x (get_or xs j d) (first j d (omega (arith, below)))
one_more x xs first rest (suc i) zero d lt below = absurd (omega (arith, lt))
one_more x xs first rest (suc i) (suc j) d lt below = rest i j d (omega (arith, lt)) (omega (arith, below))

pub keys_ascend : (xs : List ℕ) → IsStrictlySortedBy nat_cmp xs → Ascend xs
unfolding IsStrictlySortedBy
keys_ascend [] sorted = λ i j d lt below. absurd (omega (arith, below))
keys_ascend (x ∷ xs) sorted = one_more x xs (All-from_recursion (λ y. nat_cmp x y ≡ Less) xs sorted.0) (keys_ascend xs sorted.1)

-- ascending numbers that are all among other ascending ones are no more than those
module _ (ks ys : List ℕ) (up : Ascend ks) (rise : Ascend ys) (within : All (Contains ys) ks) where
  place : (n : ℕ) → n < length ks → (j : ℕ) × (n ≤ j) × (j < length ys) × (get_or ys j 0 ≡ get_or ks n 0)
  place zero lt = let (j, below, is) = within 0 0 lt in (j, omega arith, below, get_or_default ys j 0 (get_or ks 0 0) below ∙ is)
  place (suc n) lt =
      let (j, least, below, is) = place n (omega (arith, lt)) in
      let (i, here, at) = within (suc n) 0 lt in
      let found : get_or ys i 0 ≡ get_or ks (suc n) 0 = get_or_default ys i 0 (get_or ks (suc n) 0) here ∙ at in
      let less : get_or ks n 0 < get_or ks (suc n) 0 = up n (suc n) 0 (omega arith) lt in (
        i,
        elim (cases_lt j i) [
          | inl later ↦ omega (arith, least, later)
          | inr le ↦ absurd (elim (cases_lt i j) [
            | inl before ↦ omega (arith, rise i j 0 before below, found, is, less)
            | inr same ↦ let equal : i ≡ j = omega arith in omega (arith, ap (λ m. get_or ys m 0) equal, found, is, less)
          ])
        ],
        here,
        found,
      )

  pub no_more : length ks ≤ length ys
  no_more = elim (cases_lt 0 (length ks)) [
    | inl some ↦ let (j, least, below, is) = place (length ks - 1) (omega arith) in omega (arith, least, below)
    | inr none ↦ omega arith
  ]

-- a key of a set, and the test
at_itself : (b : ℕ) → is_at (nat_cmp b) b ≡ true
at_itself b = grind (arith, nat_tests)

at_same : (b x : ℕ) → is_at (nat_cmp b) x ≡ true → x ≡ b
at_same b x is = grind (arith, nat_tests)

pub key_is : (keys : List ℕ) (b : ℕ) → Contains keys b → list_any (is_at (nat_cmp b)) keys ≡ true
key_is keys b (k, lt, is) = list_any-from_Any (is_at (nat_cmp b)) keys (k, b, lt, is, at_itself b)

pub is_key : (keys : List ℕ) (b : ℕ) → list_any (is_at (nat_cmp b)) keys ≡ true → Contains keys b
is_key keys b has = let (k, x, lt, is, at) = Any-from_list_any (is_at (nat_cmp b)) keys has in
    let same : x ≡ b = at_same b x at in (k, lt, get_or_default keys k b x lt ∙ is ∙ same)

pub contains_own : (keys : List ℕ) (k d : ℕ) → k < length keys → Contains keys (get_or keys k d)
contains_own keys k d lt = (k, lt, get_or_default keys k (get_or keys k d) d lt)

-- a set whose keys are all among ascending numbers
pub fewer : (blocks : BTreeSet ℕ) (ys : List ℕ) → IsOrdered nat_cmp blocks → Ascend ys → ((b : ℕ) → contains nat_cmp blocks b ≡ true → Contains ys b) → length blocks.keys ≤ length ys
fewer blocks ys ordered rise among = no_more blocks.keys ys (keys_ascend blocks.keys ordered) rise (λ k d lt. among (get_or blocks.keys k d) (key_is blocks.keys (get_or blocks.keys k d) (contains_own blocks.keys k d lt)))

-- the test of what writes touch
pub touched_if : (b : ℕ) (ws : List Placed) → list_any (touches b) ws ≡ true → Any (λ w. IsTouched w b) ws
touched_if b ws has = let (k, w, lt, is, at) = Any-from_list_any (touches b) ws has in (k, w, lt, is, (touches_agrees b w).0 at)

pub touched_then : (b : ℕ) (ws : List Placed) → Any (λ w. IsTouched w b) ws → list_any (touches b) ws ≡ true
touched_then b ws (k, w, lt, is, at) = list_any-from_Any (touches b) ws (k, w, lt, is, (touches_agrees b w).1 at)

-- writes up to a number are among those up to a greater one
pub upto_among : (table : Held) (m n : ℕ) (P : Placed → Type 0) → m ≤ n → Any P (writes_upto table m) → Any P (writes_upto table n)
upto_among table m n P le (k, w, lt, is, has) =
    let all = map (λ (x : Kept). x.write) table.kept in
    let cut : (j : ℕ) → writes_upto table j ≡ take (j - table.forgotten) all = λ j. sym (take-map (λ (x : Kept). x.write) (j - table.forgotten) table.kept) in
    let short : k < length (take (m - table.forgotten) all) = subst (λ ws. k < length ws) (cut m) lt in
    let inside : k < m - table.forgotten = omega (arith, short, length-take (m - table.forgotten) all) in
    let long : k < length (take (n - table.forgotten) all) = omega (arith, short, length-take (m - table.forgotten) all, length-take (n - table.forgotten) all) in
    let at : get_or all k w ≡ w = sym (get_or-take (m - table.forgotten) all k w inside) ∙ ap (λ ws. get_or ws k w) (sym (cut m)) ∙ is in
    let here : get_or (writes_upto table n) k w ≡ w = ap (λ ws. get_or ws k w) (cut n) ∙ get_or-take (n - table.forgotten) all k w (omega arith) ∙ at in
    (k, w, subst (λ ws. k < length ws) (sym (cut n)) long, here, has)

-- the blocks of images
pub blocks_ascend : (images : List Image) → AllPairs (λ one other. one.block < other.block) images → Ascend (map (λ i. i.block) images)
blocks_ascend images up = λ i j d lt below.
    let far : j < length images = omega (arith, below, length-map images (λ (x : Image). x.block)) in
    let none : Image = record { block = d; bytes = [] } in
    let one = get_or-map (λ (x : Image). x.block) images i none d (omega arith) in
    let other = get_or-map (λ (x : Image). x.block) images j none d far in
    omega (arith, up i j none lt far, one, other)

pub block_of_image : (images : List Image) (b : ℕ) → Any (λ i. i.block ≡ b) images → Contains (map (λ i. i.block) images) b
block_of_image images b (k, image, lt, is, has) =
    (k, omega (arith, lt, length-map images (λ (x : Image). x.block)), get_or-map (λ (x : Image). x.block) images k image b lt ∙ ap (λ (x : Image). x.block) is ∙ has)

pub image_of_block : (images : List Image) (b : ℕ) → Contains (map (λ i. i.block) images) b → Any (λ i. i.block ≡ b) images
image_of_block images b (k, lt, is) =
    let near : k < length images = omega (arith, lt, length-map images (λ (x : Image). x.block)) in
    let none : Image = record { block = b; bytes = [] } in
    (k, get_or images k none, near, get_or_default images k (get_or images k none) none near, sym (get_or-map (λ (x : Image). x.block) images k none b near) ∙ is)

-- ---- the images of blocks to which writes do more than make the whole block zeros

abbrev pub written_of : List Placed → List Image → List Image
written_of writes images = filter (λ (i : Image). is_written writes i.block) images

-- what passes a test is among what the test keeps
kept_among : {X : Type 0} (p : X → Bool) (P : X → Type 0) (xs : List X) → Any (λ x. P x × (p x ≡ true)) xs → Any P (filter p xs)
kept_among p P [] (k, x, lt, is, has) = absurd (omega (arith, lt))
kept_among p P (y ∷ ys) some = elim (Any-cases (λ x. P x × (p x ≡ true)) y ys some) [
  | inl own ↦ rw own.1 (Any-here P y (filter p ys) own.0)
  | inr later ↦ elim (cases_Bool (p y)) [
    | inl passes ↦ rw passes (Any-later P y (filter p ys) (kept_among p P ys later))
    | inr fails ↦ rw fails (kept_among p P ys later)
  ]
]

pub sized : (writes : List Placed) (images : List Image) → group_size writes images ≡ 4 * length images + 4096 * length (written_of writes images)
sized writes images = ap (λ n. 4 * length images + 4096 * n) (sym (length-filter (λ (i : Image). is_written writes i.block) images))

written_ascend : (writes : List Placed) (images : List Image) → AllPairs (λ one other. one.block < other.block) images → Ascend (map (λ i. i.block) (written_of writes images))
written_ascend writes images up = blocks_ascend (written_of writes images) (AllPairs-filter (λ (one other : Image). one.block < other.block) (λ (i : Image). is_written writes i.block) images up)

-- no group goes further than one whose next write may take too much
pub no_further : (about : About) (left end : ℕ) (volume : List ℕ) (most : ℕ) (node : NodeState) (q : ℕ) (others : List Image) → ((size : ℕ) → left < size → HasNoRoom about size)
    → MayTakeMore left (writes_upto node.table (end + 1)) → end < q → IsGroup (HasRoom about) volume most node q others → ⊥
no_further about left end volume most node q others too_much more further group =
    let near = writes_upto node.table (end + 1) in
    let far = writes_upto node.table q in
    let image_of : (b : ℕ) → Any (λ w. IsTouched w b) near → Any (λ (i : Image). i.block ≡ b) others = λ b some. (group.whole.touched b).1 (upto_among node.table (end + 1) q (λ w. IsTouched w b) (omega arith) some) in
    let among : (b : ℕ) → contains nat_cmp more.touched b ≡ true → Contains (map (λ (i : Image). i.block) others) b = λ b has.
    block_of_image others b (image_of b (touched_if b near (sym (more.counted.are_touched b) ∙ has))) in
    let few = fewer more.touched (map (λ (i : Image). i.block) others) more.counted.touched_ordered (blocks_ascend others group.whole.ascending) among in
    let among_written : (b : ℕ) → contains nat_cmp more.written b ≡ true → Contains (map (λ (i : Image). i.block) (written_of far others)) b = λ b has.
    (let (k, w, lt, is, does) = Any-from_list_any (does_more b) near (sym (more.counted.are_written b) ∙ has) in
    let touched : IsTouched w b = (touches_agrees b w).0 (and_parts (touches b w) (not (blanks b w)) does).0 in
    let still : is_written far b ≡ true = list_any-from_Any (does_more b) far (upto_among node.table (end + 1) q (λ v. does_more b v ≡ true) (omega arith) (k, w, lt, is, does)) in
    let (i, image, below, at, of_block) = image_of b (k, w, lt, is, touched) in
    block_of_image (written_of far others) b (kept_among (λ (x : Image). is_written far x.block) (λ x. x.block ≡ b) others (i, image, below, at, (of_block, ap (is_written far) of_block ∙ still)))) in
    let few_written = fewer more.written (map (λ (i : Image). i.block) (written_of far others)) more.counted.written_ordered (written_ascend far others group.whole.ascending) among_written in
    let none = too_much (group_size far others) (omega (arith, few, few_written, more.many, sized far others, length-map others (λ (x : Image). x.block), length-map (written_of far others) (λ (x : Image). x.block))) in
    omega (arith, none, group.fits)

-- images of blocks that the writes only make zeros are marks
either : (blank : Bool) → (if blank then 4 else 4100) ≤ 4100
either true = omega arith
either false = omega arith

pub images_at_most : (writes : List Placed) (images : List Image) → All (IsBlank writes) images → All (λ i. list_any (touches i.block) writes ≡ true) images → images_size images ≤ group_size writes images
images_at_most writes [] blank touched = omega arith
images_at_most writes (image ∷ images) blank touched =
    let rest = images_at_most writes images (All-tail (IsBlank writes) image images blank) (All-tail (λ (i : Image). list_any (touches i.block) writes ≡ true) image images touched) in
    let all = sized writes (image ∷ images) in
    let those = sized writes images in
    elim (cases_Bool (is_written writes image.block)) [
      | inl more ↦ (let one : length (written_of writes (image ∷ images)) ≡ length (written_of writes images) + 1 = rw more (omega arith) in
          omega (arith, rest, all, those, one, either (is_zeros image.bytes)))
      | inr only ↦ (let none : length (written_of writes (image ∷ images)) ≡ length (written_of writes images) = rw only refl in
          let mark : image_size image ≡ 4 = ap (λ (b : Bool). if b then 4 else 4100) (All-head (IsBlank writes) image images blank (All-head (λ (i : Image). list_any (touches i.block) writes ≡ true) image images touched) only) in
          omega (arith, rest, all, those, none, mark))
    ]

-- some block is touched by writes that all have bytes
first_write : (n : ℕ) (kept : List Kept) → 0 < n → 0 < length kept → All (λ k. 0 < length k.write.bytes) kept → (b : ℕ) × Any (λ w. IsTouched w b) (map (λ k. k.write) (take n kept))
first_write zero kept some more bytes = absurd (omega (arith, some))
first_write (suc n) [] some more bytes = absurd (omega (arith, more))
first_write (suc n) (k ∷ kept) some more bytes =
    let has = All-head (λ (x : Kept). 0 < length x.write.bytes) k kept bytes in
    (k.write.offset / 4096, (0, k.write, omega arith, refl, (omega arith, omega (arith, has), has)))

-- images of just the blocks that writes up to a number touch
module _ (table : Held) (end : ℕ) (images : List Image) (list : List ℕ) (of_blocks : map (λ i. i.block) images ≡ list) (touched : IsTouchedList (writes_upto table end) list) where
  pub ascending : AllPairs (λ one other. one.block < other.block) images
  ascending = λ i j d lt below.
      let rise : Ascend (map (λ (x : Image). x.block) images) = subst Ascend (sym (of_blocks ∙ touched.keys_are)) (keys_ascend touched.blocks.keys touched.ordered) in
      let far : j < length (map (λ (x : Image). x.block) images) = omega (arith, below, length-map images (λ (x : Image). x.block)) in
      omega (arith, rise i j d.block lt far, get_or-map (λ (x : Image). x.block) images i d d.block (omega arith), get_or-map (λ (x : Image). x.block) images j d d.block below)

  pub covers : (b : ℕ) → Any (λ i. i.block ≡ b) images ↔ Any (λ w. IsTouched w b) (writes_upto table end)
  covers b = (
    λ some. touched_if b (writes_upto table end) (sym (touched.are b) ∙ key_is touched.blocks.keys b (subst (λ l. Contains l b) (of_blocks ∙ touched.keys_are) (block_of_image images b some))),
    λ some. image_of_block images b (subst (λ l. Contains l b) (sym (of_blocks ∙ touched.keys_are)) (is_key touched.blocks.keys b (touched.are b ∙ touched_then b (writes_upto table end) some))),
  )

  pub few_bytes : (left : ℕ) → TakeAtMost left (writes_upto table end) → group_size (writes_upto table end) images ≤ left
  few_bytes left most =
      let writes = writes_upto table end in
      let less = fewer touched.blocks most.touched.keys touched.ordered (keys_ascend most.touched.keys most.counted.touched_ordered) (λ b has. is_key most.touched.keys b (most.counted.are_touched b ∙ sym (touched.are b) ∙ has)) in
      let passes = filter_passes (λ (i : Image). is_written writes i.block) images in
      let within : All (Contains most.written.keys) (map (λ (i : Image). i.block) (written_of writes images)) = λ k d lt.
      (let short : k < length (written_of writes images) = omega (arith, lt, length-map (written_of writes images) (λ (x : Image). x.block)) in
      let none : Image = record { block = d; bytes = [] } in
      let at = get_or-map (λ (x : Image). x.block) (written_of writes images) k none d short in
      subst (Contains most.written.keys) (sym at) (is_key most.written.keys (get_or (written_of writes images) k none).block (most.counted.are_written (get_or (written_of writes images) k none).block ∙ passes k none short))) in
      let fewer_written = no_more (map (λ (i : Image). i.block) (written_of writes images)) most.written.keys (written_ascend writes images ascending) (keys_ascend most.written.keys most.counted.written_ordered) within in
      omega (arith, less, fewer_written, most.few, sized writes images, length-map images (λ (x : Image). x.block), length-map (written_of writes images) (λ (x : Image). x.block), ap length (of_blocks ∙ touched.keys_are))

  pub all_touched : All (λ i. list_any (touches i.block) (writes_upto table end) ≡ true) images
  all_touched = λ k d lt. touched_then (get_or images k d).block (writes_upto table end) ((covers (get_or images k d).block).0 (k, get_or images k d, lt, get_or_default images k (get_or images k d) d lt, refl))

  pub some_images : table.forgotten < end → end ≤ applied_of table → All (λ k. 0 < length k.write.bytes) table.kept → 0 < length images
  some_images above applied bytes =
      let (b, some) = first_write (end - table.forgotten) table.kept (omega arith) (omega arith) bytes in
      let (k, image, lt, is, has) = (covers b).1 some in
      omega (arith, lt)

-- each touched block lies in the volume
pub list_within : (table : Held) (end blocks : ℕ) (list : List ℕ) → IsTouchedList (writes_upto table end) list → All (Fits (4096 * blocks)) (writes_upto table end) → All (λ b. b < blocks) list
list_within table end blocks list touched fit = λ k d lt.
    let b = get_or list k d in
    let (i, w, below, is, has) = touched_if b (writes_upto table end) (sym (touched.are b) ∙ key_is touched.blocks.keys b (subst (λ l. Contains l b) touched.keys_are (contains_own list k d lt))) in
    let fits : Fits (4096 * blocks) w = subst (Fits (4096 * blocks)) is (fit i w below) in
    omega (arith, fits, has.1)

-- images of such blocks
pub images_within : (n : ℕ) (images : List Image) (list : List ℕ) → map (λ i. i.block) images ≡ list → All (λ b. b < n) list → All (λ i. i.block < n) images
images_within n images list of_blocks within = λ k d lt.
    let all : All (λ b. b < n) (map (λ (x : Image). x.block) images) = subst (λ l. All (λ b. b < n) l) (sym of_blocks) within in
    omega (arith, all k d.block (omega (arith, lt, length-map images (λ (x : Image). x.block))), get_or-map (λ (x : Image). x.block) images k d d.block lt)

pub images_once : (images : List Image) → AllPairs (λ one other. one.block < other.block) images → AllPairs (λ a b. a.block ≢ b.block) images
images_once images up = λ i j d lt below is. omega (arith, up i j d lt below, is)

-- the commit of the greatest group begins
pub begins_by : (about : About) (volume : List ℕ) (most limit : ℕ) (node : NodeState) (commit : Commit) → limit ≤ node.known → limit ≤ durable_of node + most → ((q : ℕ) → q ≤ node.known → q ≤ durable_of node + most → q ≤ limit)
    → IsGroupUpTo about node.table limit commit → AreImagesOf volume (writes_upto node.table commit.front) commit.images → Begins (HasRoom about) volume most node (record node { commit = Some commit; found = None })
begins_by about volume most limit node commit known near all group are = record {
  p = commit.front;
  images = commit.images;
  group = record { above = group.above; known = omega (arith, group.upto, known); most_writes = omega (arith, group.upto, near); whole = are; fits = group.fits };
  greatest = λ q others other. elim (cases_lt commit.front q) [
    | inl further ↦ absurd (elim (cases_lt commit.front limit) [
      | inl below ↦ let much = group.greatest below in no_further about much.left commit.front volume most node q others much.too_much much.more further other
      | inr reached ↦ let within = all q other.known other.most_writes in omega arith
    ])
    | inr le ↦ le
  ];
  begun = refl;
}

-- no group where the first write may take too much
pub no_group : (about : About) (volume : List ℕ) (most : ℕ) (node : NodeState) (q : ℕ) (others : List Image) → IsTooMuch about (writes_upto node.table (durable_of node + 1)) → IsGroup (HasRoom about) volume most node q others → ⊥
no_group about volume most node q others much group = no_further about much.left (durable_of node) volume most node q others much.too_much much.more group.above group

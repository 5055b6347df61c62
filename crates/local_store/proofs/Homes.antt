-- How the home region, the batches and what is pending go on together.
use Rattle.std.proofs.Common.{◌≡◌, ◌≢◌, ℕ, zero, suc, ◌+◌, ◌*◌, ◌<◌, ◌≤◌, ◌==◌, true, false, List, [], ◌∷◌, ◌++◌, length, get_or, drop, set, replicate, refl, sym, ◌∙◌, ap, subst, arith, inl, inr}
use Rattle.std.specs.Prelude.{All, Option, Some, None, unwrap_or, IsSome}
use Rattle.disk_model.specs.Part.{inside}
use Rattle.home_blocks.specs.Places.{disk_size_of, home_part}
use Rattle.volume.specs.declared.geometry.Geometry.{Geometry}
use Rattle.std.proofs.lemmas.List.{length-take, length-drop, get_or-set_same, get_or-set_other, length-set, append-nil, append_assoc, length-replicate, get_or-replicate, get_or_past}
use Rattle.std.proofs.lemmas.List.Elements.{All-head, All-tail, All-push, All-nil}
use Rattle.std.proofs.lemmas.Bool.{both_ways, cases_lt, cases_Bool, eqb-true, eqb-false, eq-eqb}
use Rattle.disk_model.specs.Disk.{Follows, Holds, Only, Torn}
use Rattle.gate_journal.specs.Batch.{Batch}
use Rattle.gate_journal.specs.Image.{Image}
use Rattle.local_store.specs.Overlay.{placed, with_images, with_batches, covers, is_covered, FitsIn, AllFitIn}
use Rattle.local_store.specs.Pending.{held, with_pending, with_all_pending, AreHomeOrPending, IsHome}
use Rattle.local_store.proofs.Overlays.{own_block, other_block, long_still, covered_still, covered_now, with_batches-push, torn_block, batches_cover}
use Rattle.volume.specs.Volumes.{block_of-volume_of-nil, same_from_blocks}
use Rattle.volume.specs.Writes.{patched, block_of}

some_is : {x y : List ℕ} → Some x ≡ Some y → x ≡ y
some_is {x} same = ap (λ (o : Option (List ℕ)). unwrap_or o x) same

empty_isnt : IsSome {T = List ℕ} None → ⊥
empty_isnt is = both_ways false refl is

pub some_is_none : {x : List ℕ} → Some x ≡ None → ⊥
some_is_none {x} same = absurd (empty_isnt (subst IsSome same refl))

-- one image more, of a block that is on disk elsewhere
module _ (n : ℕ) (E : ℕ → Type 0) (v : List ℕ) (pending : List (Option (List ℕ))) (home : List ℕ) (image : Image) (fit : FitsIn n image) (was : AreHomeOrPending n E v pending home) where
  held_own : (b : ℕ) → image.block ≡ b → held (set pending image.block (Some image.bytes)) b ≡ Some image.bytes
  held_own b is = subst (λ (k : ℕ). held (set pending image.block (Some image.bytes)) k ≡ Some image.bytes) is (get_or-set_same pending image.block (Some image.bytes) None (omega (arith, was.table, fit.0)))

  held_other : (b : ℕ) → image.block ≢ b → held (set pending image.block (Some image.bytes)) b ≡ held pending b
  held_other b apart = get_or-set_other pending image.block b (Some image.bytes) None (λ is. apart (sym is))

  one_image : E image.block → AreHomeOrPending n E (patched v (placed image)) (set pending image.block (Some image.bytes)) home
  one_image there = record {
    table = length-set pending image.block (Some image.bytes) ∙ was.table;
    size = long_still n v image was.size fit;
    as_long = was.as_long;
    is_home = λ b below empty. elim (cases_Bool (image.block == b)) [
      | inl is ↦ absurd (some_is_none (sym (held_own b (eqb-true _ _ is)) ∙ empty))
      | inr isnt ↦ was.is_home b below (sym (held_other b (eqb-false _ _ isnt)) ∙ empty) ∙ sym (other_block n v image b was.size fit (eqb-false _ _ isnt))
    ];
    image = λ b bytes full. elim (cases_Bool (image.block == b)) [
      | inl is ↦ some_is (sym full ∙ held_own b (eqb-true _ _ is))
          ∙ subst (λ (k : ℕ). image.bytes ≡ block_of (patched v (placed image)) k) (eqb-true _ _ is) (sym (own_block n v image was.size fit))
      | inr isnt ↦ was.image b bytes (sym (held_other b (eqb-false _ _ isnt)) ∙ full) ∙ sym (other_block n v image b was.size fit (eqb-false _ _ isnt))
    ];
    elsewhere = λ b bytes full. elim (cases_Bool (image.block == b)) [
      | inl is ↦ subst E (eqb-true _ _ is) there
      | inr isnt ↦ was.elsewhere b bytes (sym (held_other b (eqb-false _ _ isnt)) ∙ full)
    ];
  }

-- more images, each of such a block
pub more_images : (n : ℕ) (E : ℕ → Type 0) (v : List ℕ) (pending : List (Option (List ℕ))) (home : List ℕ) (images : List Image) → All (FitsIn n) images → All (λ image. E image.block) images
    → AreHomeOrPending n E v pending home → AreHomeOrPending n E (with_images v images) (with_pending pending images) home
more_images n E v pending home [] fit there was = was
more_images n E v pending home (image ∷ images) fit there was =
    let P = λ (i : Image). E i.block in
    more_images n E (patched v (placed image)) (set pending image.block (Some image.bytes)) home images (All-tail (FitsIn n) image images fit) (All-tail P image images there)
    (one_image n E v pending home image (All-head (FitsIn n) image images fit) was (All-head P image images there))

-- each image's block is covered
covers-own : (images : List Image) → All (λ image. covers image.block images ≡ true) images
covers-own images = λ k d lt. at images k d lt
  where
    at : (images : List Image) (k : ℕ) (d : Image) → k < length images → covers (get_or images k d).block images ≡ true
    at [] k d lt = absurd (omega (arith, lt))
    at (image ∷ images) zero d lt = rw (eq-eqb image.block image.block refl) refl
    at (image ∷ images) (suc k) d lt = elim (cases_Bool (image.block == (get_or images k d).block)) [
      | inl is ↦ rw is refl
      | inr isnt ↦ rw isnt (at images k d (omega (arith, lt)))
    ]

-- a batch more
pub one_batch : {n : ℕ} {v : List ℕ} {batches : List Batch} {pending : List (Option (List ℕ))} {home : List ℕ} {left : List ℕ → Type 0} (batch : Batch) → All (FitsIn n) batch.images
    → IsHome n v batches pending home left → IsHome n (with_images v batch.images) (batches ++ batch ∷ []) (with_pending pending batch.images) home left
one_batch {n} {v} {batches} {pending} {home} {left} batch fit was = record {
  waits = more_images n (λ b. is_covered b (batches ++ batch ∷ []) ≡ true) v pending home batch.images fit
      (λ k d lt. covered_now (get_or batch.images k d).block batches batch (covers-own batch.images k d lt))
      (record {
        table = was.waits.table;
        size = was.waits.size;
        as_long = was.waits.as_long;
        is_home = was.waits.is_home;
        image = was.waits.image;
        elsewhere = λ b bytes some. covered_still b batches batch (was.waits.elsewhere b bytes some);
      });
  fit = All-push (λ (x : Batch). All (FitsIn n) x.images) batches batch was.fit fit;
  long = was.long;
  left = λ x may. with_batches-push x batches batch ∙ ap (λ (w : List ℕ). with_images w batch.images) (was.left x may);
}

-- batches more
pub more_batches : (n : ℕ) (home : List ℕ) (left : List ℕ → Type 0) (more : List Batch) (v : List ℕ) (batches : List Batch) (pending : List (Option (List ℕ))) → AllFitIn n more
    → IsHome n v batches pending home left → IsHome n (with_batches v more) (batches ++ more) (with_all_pending pending more) home left
more_batches n home left [] v batches pending fit was = subst (λ (bs : List Batch). IsHome n v bs pending home left) (sym (append-nil batches)) was
more_batches n home left (batch ∷ more) v batches pending fit was =
    let P = λ (b : Batch). All (FitsIn n) b.images in
    subst (λ (bs : List Batch). IsHome n (with_batches v (batch ∷ more)) bs (with_all_pending pending (batch ∷ more)) home left) (append_assoc batches (batch ∷ []) more)
    (more_batches n home left more (with_images v batch.images) (batches ++ batch ∷ []) (with_pending pending batch.images) (All-tail P batch more fit) (one_batch batch (All-head P batch more fit) was))

-- the home region as it is, with nothing over it
pub as_it_is : {n : ℕ} {home : List ℕ} {left : List ℕ → Type 0} → length home ≡ 4096 * n → Only home left → IsHome n home [] (replicate n None) home left
as_it_is {n} {home} {left} long only = record {
  waits = record {
    table = length-replicate {A = Option (List ℕ)} n None;
    size = long;
    as_long = long;
    is_home = λ b below empty. refl;
    image = λ b bytes full. absurd (some_is_none (sym full ∙ none b));
    elsewhere = λ b bytes full. absurd (some_is_none (sym full ∙ none b));
  };
  fit = All-nil _;
  long = λ x may. ap length (only x may) ∙ long;
  left = λ x may. only x may;
}
  where
    none : (b : ℕ) → held (replicate n None) b ≡ None
    none b = elim (cases_lt b n) [
      | inl below ↦ get_or-replicate {A = Option (List ℕ)} n b None None below
      | inr past ↦ get_or_past (replicate n None) b None (omega (arith, past, length-replicate {A = Option (List ℕ)} n None))
    ]

-- where nothing is pending, the home region is the volume
pub all_home : {n : ℕ} {E : ℕ → Type 0} {v : List ℕ} {pending : List (Option (List ℕ))} {home : List ℕ} → AreHomeOrPending n E v pending home → ((b : ℕ) → b < n → held pending b ≡ None) → home ≡ v
all_home {n} {E} {v} {pending} {home} waits empty = same_from_blocks n home v waits.as_long waits.size (λ b below. waits.is_home b below (empty b below))

-- so it needs no batches once it is durable
pub needs_none : {n : ℕ} {E : ℕ → Type 0} {v : List ℕ} {pending : List (Option (List ℕ))} {home : List ℕ} {left : List ℕ → Type 0} → AreHomeOrPending n E v pending home → ((b : ℕ) → b < n → held pending b ≡ None) → Only home left
    → IsHome n v [] pending home left
needs_none {n} {E} {v} {pending} {home} {left} waits empty only = record {
  waits = record {
    table = waits.table;
    size = waits.size;
    as_long = waits.as_long;
    is_home = waits.is_home;
    image = waits.image;
    elsewhere = λ b bytes full. absurd (some_is_none (sym full ∙ none b));
  };
  fit = All-nil _;
  long = λ x may. ap length (only x may) ∙ waits.as_long;
  left = λ x may. only x may ∙ all_home waits empty;
}
  where
    none : (b : ℕ) → held pending b ≡ None
    none b = elim (cases_lt b n) [
      | inl below ↦ empty b below
      | inr past ↦ get_or_past pending b None (omega (arith, past, waits.table))
    ]

-- whatever a torn write of a covered block leaves is the volume under the batches
torn_left : (n : ℕ) (v : List ℕ) (batches : List Batch) (b : ℕ) (x y : List ℕ) → AllFitIn n batches → is_covered b batches ≡ true → length x ≡ 4096 * n → with_batches x batches ≡ v → Torn (4096 * b) 4096 x y
    → (length y ≡ 4096 * n) × (with_batches y batches ≡ v)
torn_left n v batches b x y fit covered long was torn =
    let long_y : length y ≡ 4096 * n = torn.size ∙ long in
    (long_y, batches_cover n y x batches long_y long fit (λ k below apart. torn_block b k x y torn (λ is. both_ways (is_covered b batches) (subst (λ (j : ℕ). is_covered j batches ≡ false) is apart) covered)) ∙ was)

-- a pending block written home
pub block_home : {n : ℕ} {v : List ℕ} {batches : List Batch} {pending : List (Option (List ℕ))} {home : List ℕ} {left : List ℕ → Type 0} (b : ℕ) (bytes new : List ℕ) (left_new : List ℕ → Type 0) → b < n → length bytes ≡ 4096
    → held pending b ≡ Some bytes → Holds home (4096 * b) bytes new → Follows (Torn (4096 * b) 4096) left left_new
    → IsHome n v batches pending home left → IsHome n v batches (set pending b None) new left_new
block_home {n} {v} {batches} {pending} {home} {left} b bytes new left_new below whole full holds follows was = record {
  waits = record {
    table = length-set pending b None ∙ was.waits.table;
    size = was.waits.size;
    as_long = ap length holds ∙ long_still n home image was.waits.as_long (below, whole);
    is_home = λ k within empty. elim (cases_Bool (b == k)) [
      | inl is ↦ subst (λ (j : ℕ). block_of new j ≡ block_of v j) (eqb-true _ _ is) (ap (λ (l : List ℕ). block_of l b) holds ∙ own_block n home image was.waits.as_long (below, whole) ∙ was.waits.image b bytes full)
      | inr isnt ↦ ap (λ (l : List ℕ). block_of l k) holds ∙ other_block n home image k was.waits.as_long (below, whole) (eqb-false _ _ isnt)
          ∙ was.waits.is_home k within (sym (other k (eqb-false _ _ isnt)) ∙ empty)
    ];
    image = λ k held_bytes is. was.waits.image k held_bytes (still k held_bytes is);
    elsewhere = λ k held_bytes is. was.waits.elsewhere k held_bytes (still k held_bytes is);
  };
  fit = was.fit;
  long = λ y may. let (x, before, torn) = follows y may in (torn_left n v batches b x y was.fit covered (was.long x before) (was.left x before) torn).0;
  left = λ y may. let (x, before, torn) = follows y may in (torn_left n v batches b x y was.fit covered (was.long x before) (was.left x before) torn).1;
}
  where
    image : Image
    image = record { block = b; bytes = bytes }

    covered : is_covered b batches ≡ true
    covered = was.waits.elsewhere b bytes full

    other : (k : ℕ) → b ≢ k → held (set pending b None) k ≡ held pending k
    other k apart = get_or-set_other pending b k None None (λ is. apart (sym is))

    still : (k : ℕ) (held_bytes : List ℕ) → held (set pending b None) k ≡ Some held_bytes → held pending k ≡ Some held_bytes
    still k held_bytes is = elim (cases_Bool (b == k)) [
      | inl same ↦ absurd (some_is_none (sym is ∙ subst (λ (j : ℕ). held (set pending b None) j ≡ None) (eqb-true _ _ same) (get_or-set_same pending b None None (omega (arith, below, was.waits.table)))))
      | inr isnt ↦ sym (other k (eqb-false _ _ isnt)) ∙ is
    ]

-- a write of it that is torn, at a stop
pub block_torn : {n : ℕ} {v : List ℕ} {batches : List Batch} {pending : List (Option (List ℕ))} {home : List ℕ} {left : List ℕ → Type 0} (b : ℕ) (bytes x y : List ℕ) → held pending b ≡ Some bytes → left x → Torn (4096 * b) 4096 x y
    → IsHome n v batches pending home left → with_batches y batches ≡ v
block_torn {n} {v} {batches} {pending} {home} {left} b bytes x y full may torn was = (torn_left n v batches b x y was.fit (was.waits.elsewhere b bytes full) (was.long x may) (was.left x may) torn).1

pub length-with_pending : (pending : List (Option (List ℕ))) (images : List Image) → length (with_pending pending images) ≡ length pending
length-with_pending pending [] = refl
length-with_pending pending (image ∷ images) = length-with_pending (set pending image.block (Some image.bytes)) images ∙ length-set pending image.block (Some image.bytes)

-- one block more that is home
pub held_below : (pending : List (Option (List ℕ))) (at b : ℕ) → ((k : ℕ) → k < at → held pending k ≡ None) → b < at + 1 → held (set pending at None) b ≡ None
held_below pending at b empty below = elim (cases_Bool (at == b)) [
  | inl is ↦ subst (λ (k : ℕ). held (set pending at None) k ≡ None) (eqb-true _ _ is) (elim (cases_lt at (length pending)) [
    | inl within ↦ get_or-set_same pending at None None within
    | inr past ↦ get_or_past (set pending at None) at None (omega (arith, past, length-set pending at None))
  ])
  | inr isnt ↦ get_or-set_other pending at b None None (λ is. (eqb-false _ _ isnt) (sym is)) ∙ empty b (omega (arith, below, eqb-false _ _ isnt))
]

-- zeros written to the blocks one by one
pub zero_next : (n at : ℕ) (old new : List ℕ) → length old ≡ 4096 * n → at < n → Holds old (4096 * at) (replicate 4096 0) new → ((b : ℕ) → b < at → block_of old b ≡ replicate 4096 0)
    → (b : ℕ) → b < at + 1 → block_of new b ≡ replicate 4096 0
zero_next n at old new long below holds so_far b within =
    let image : Image = record { block = at; bytes = replicate 4096 0 } in
    let fit : FitsIn n image = (below, length-replicate {A = ℕ} 4096 0) in
    elim (cases_Bool (at == b)) [
      | inl is ↦ subst (λ (k : ℕ). block_of new k ≡ replicate 4096 0) (eqb-true _ _ is) (ap (λ (l : List ℕ). block_of l at) holds ∙ own_block n old image long fit)
      | inr isnt ↦ ap (λ (l : List ℕ). block_of l b) holds ∙ other_block n old image b long fit (eqb-false _ _ isnt) ∙ so_far b (omega (arith, within, eqb-false _ _ isnt))
    ]

pub all_zero : (n : ℕ) (home : List ℕ) → length home ≡ 4096 * n → ((b : ℕ) → b < n → block_of home b ≡ replicate 4096 0) → home ≡ replicate (4096 * n) 0
all_zero n home long zeros =
    same_from_blocks n home (replicate (4096 * n) 0) long (length-replicate {A = ℕ} (4096 * n) 0)
    (λ b below. zeros b below ∙ sym (block_of-volume_of-nil (4096 * n) b (omega (arith, below))))

-- the home region of a disk that is long enough
pub length-home : (g : Geometry) (bytes : List ℕ) → disk_size_of g ≤ length bytes → length (inside (home_part g) bytes) ≡ 4096 * g.blocks
length-home g bytes room = omega (arith, room, length-take (4096 * g.blocks) (drop 8192 bytes), length-drop 8192 bytes)

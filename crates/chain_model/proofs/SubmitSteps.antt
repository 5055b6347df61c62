-- The list of the writes on all submit links, link by link: lemmas.
use Rattle.std.proofs.Common.{if◌then◌else◌, ◌≡◌, ◌≢◌, ℕ, zero, suc, ◌≤◌, ◌==◌, Option, None, List, [], ◌∷◌, ◌++◌, get_or, refl, sym, ◌∙◌, ap, subst, inl, inr, arith}
use Rattle.std.specs.Prelude.{All, AllPairs, Contains}
use Rattle.std.specs.List.{flat_map}
use Rattle.std.proofs.lemmas.Bool.{cases_eq, cond-false, cond-true, eq-eqb, ne_eqb}
use Rattle.std.proofs.lemmas.List.{append-nil, append_assoc}
use Rattle.std.proofs.lemmas.List.Concat.{flat_map-append}
use Rattle.std.proofs.lemmas.List.Elements.{All-cons, All-head, All-nil, All-tail, Contains-get_or}
use Rattle.configurations.specs.Record.{Record}
use Rattle.chain_steps.specs.Place.{incarnation_in}
use Rattle.chain_steps.specs.declared.message.Envelope.{Envelope}
use Rattle.world_model.specs.Machine.{State}
use Rattle.world_model.specs.Requests.{Requests, StandsFor, Submitted}
use Rattle.world_model.proofs.Standing.{Stays}
use Rattle.chain_model.specs.Laws.{HasTaken}
use Rattle.chain_model.proofs.LineSteps.{all_without_some, loses_submits}
use Rattle.chain_model.specs.View.{incarnation_at, submitted_among, submitted_from, submitted_in, submitted_on}

-- ---- lists

-- two functions that agree at each element give the same
flat_agree : {A B : Type 0} (f g : A → List B) (xs : List A) → All (λ x. g x ≡ f x) xs → flat_map g xs ≡ flat_map f xs
flat_agree f g [] same = refl
flat_agree f g (x ∷ xs) same =
    ap (λ l. l ++ flat_map g xs) (All-head (λ y. g y ≡ f y) x xs same) ∙ ap (λ l. f x ++ l) (flat_agree f g xs (All-tail (λ y. g y ≡ f y) x xs same))

-- a list, and the one place of an element in it
record At (xs : List ℕ) (x : ℕ) : Type 0 where
  pub before : List ℕ
  pub after : List ℕ
  pub is : xs ≡ before ++ x ∷ after
  pub none_before : All (λ y. y ≢ x) before
  pub none_after : All (λ y. y ≢ x) after

-- it stands where it was found
split_at : (xs : List ℕ) (x : ℕ) → AllPairs (λ y z. y ≢ z) xs → Contains xs x → At xs x
split_at [] x apart (k, lt, is) = absurd (omega (arith, lt))
split_at (y ∷ ys) x apart (zero, lt, is) = record {
  before = [];
  after = ys;
  is = ap (λ (z : ℕ). z ∷ ys) is;
  none_before = All-nil (λ z. z ≢ x);
  none_after = λ k d within same. apart 0 (suc k) d (omega arith) (omega (arith, within)) (is ∙ sym same);
}
split_at (y ∷ ys) x apart (suc k, lt, is) =
    let rest = split_at ys x (λ i j d one two. apart (suc i) (suc j) d (omega (arith, one)) (omega (arith, two))) (k, omega (arith, lt), is) in
    record {
      before = y ∷ rest.before;
      after = rest.after;
      is = ap (λ (l : List ℕ). y ∷ l) rest.is;
      none_before = All-cons (λ z. z ≢ x) y rest.before (λ same. apart 0 (suc k) x (omega arith) (omega (arith, lt)) (same ∙ sym is)) rest.none_before;
      none_after = rest.none_after;
    }

-- of two functions that agree at all others, the one around the element, and the other at it
flat_around : (f g : ℕ → List Submitted) (xs : List ℕ) (x : ℕ) (at : At xs x) → ((y : ℕ) → y ≢ x → g y ≡ f y) → flat_map g xs ≡ flat_map f at.before ++ (g x ++ flat_map f at.after)
flat_around f g xs x at same =
    ap (flat_map g) at.is
    ∙ flat_map-append g at.before (x ∷ at.after)
    ∙ ap (λ (l : List Submitted). l ++ (g x ++ flat_map g at.after)) (flat_agree f g at.before (λ k d lt. same (get_or at.before k d) (at.none_before k d lt)))
    ∙ ap (λ (l : List Submitted). flat_map f at.before ++ (g x ++ l)) (flat_agree f g at.after (λ k d lt. same (get_or at.after k d) (at.none_after k d lt)))

-- five lists in a row, by other brackets
regrouped : {X : Type 0} (a b c d e : List X) → a ++ ((b ++ (c ++ d)) ++ e) ≡ (a ++ b) ++ (c ++ (d ++ e))
regrouped a b c d e =
    ap (λ l. a ++ l) (append_assoc b (c ++ d) e ∙ ap (λ l. b ++ l) (append_assoc c d e)) ∙ sym (append_assoc a b (c ++ (d ++ e)))

-- ---- around one link

-- The writes on one link stand among those on all, whatever is on it.
pub record Split (recorded before : Record) (submits : ℕ → ℕ → List Envelope) (slots : List ℕ) (from to : ℕ) : Type 0 where
  pub one : List Submitted
  pub other : List Submitted
  pub is : (others : ℕ → ℕ → List Envelope) → ((x y : ℕ) → (x ≡ from → y ≢ to) → others x y ≡ submits x y)
      → submitted_among recorded before others slots ≡ one ++ (submitted_on recorded before from (others from to) ++ other)

-- If nobody stands twice, there is one such place.
pub split_submits : (recorded before : Record) (submits : ℕ → ℕ → List Envelope) (slots : List ℕ) (from to : ℕ)
    → AllPairs (λ slot other. slot ≢ other) slots → Contains slots from → Contains slots to → Split recorded before submits slots from to
split_submits recorded before submits slots from to apart has_from has_to =
    let first = split_at slots from apart has_from in
    let second = split_at slots to apart has_to in
    let all : ℕ → List Submitted = submitted_from recorded before submits slots in
    let its : ℕ → List Submitted = λ y. submitted_on recorded before from (submits from y) in
    record {
      one = flat_map all first.before ++ flat_map its second.before;
      other = flat_map its second.after ++ flat_map all first.after;
      is = λ others same.
          let links_from : (x : ℕ) → x ≢ from → submitted_from recorded before others slots x ≡ all x =
          λ x other_slot. flat_agree (λ y. submitted_on recorded before x (submits x y)) (λ y. submitted_on recorded before x (others x y)) slots
          (λ k d lt. ap (submitted_on recorded before x) (same x (get_or slots k d) (λ is. absurd (other_slot is)))) in
          let links_to : (y : ℕ) → y ≢ to → submitted_on recorded before from (others from y) ≡ its y =
          λ y other_slot. ap (submitted_on recorded before from) (same from y (λ is. other_slot)) in
          flat_around all (submitted_from recorded before others slots) slots from first links_from
          ∙ ap (λ (l : List Submitted). flat_map all first.before ++ (l ++ flat_map all first.after))
          (flat_around its (λ y. submitted_on recorded before from (others from y)) slots to second links_to)
          ∙ regrouped (flat_map all first.before) (flat_map its second.before) (submitted_on recorded before from (others from to)) (flat_map its second.after) (flat_map all first.after);
    }

-- Links between the slots that are the same show the same.
pub submits_apart : (recorded before : Record) (old new : ℕ → ℕ → List Envelope) (slots : List ℕ) → ((x y : ℕ) → Contains slots x → Contains slots y → new x y ≡ old x y)
    → submitted_among recorded before new slots ≡ submitted_among recorded before old slots
submits_apart recorded before old new slots same =
    flat_agree (submitted_from recorded before old slots) (submitted_from recorded before new slots) slots
    (λ k d lt.
    let x = get_or slots k d in
    flat_agree (λ y. submitted_on recorded before x (old x y)) (λ y. submitted_on recorded before x (new x y)) slots
    (λ i e within. ap (submitted_on recorded before x) (same x (get_or slots i e) (Contains-get_or slots k d lt) (Contains-get_or slots i e within))))

-- ---- fewer writes

-- What holds with the one list among others holds with the other list in its place.
abbrev Keeps : (List Submitted → Type 0) → List Submitted → List Submitted → Type 0
Keeps Q some fewer = (one other : List Submitted) → Q (one ++ (some ++ other)) → Q (one ++ (fewer ++ other))

-- of what holds still where some are lost
module _ (Q : List Submitted → Type 0) (loses : (one some other : List Submitted) → Q (one ++ (some ++ other)) → Q (one ++ other)) where
  keeps_same : (some same : List Submitted) → same ≡ some → Keeps Q some same
  keeps_same some same is one other holds = subst (λ (l : List Submitted). Q (one ++ (l ++ other))) (sym is) holds

  keeps_none : (some none : List Submitted) → none ≡ [] → Keeps Q some none
  keeps_none some none is one other holds = subst (λ (l : List Submitted). Q (one ++ (l ++ other))) (sym is) (loses one some other holds)

  keeps_behind : (first rest : List Submitted) → Keeps Q (first ++ rest) rest
  keeps_behind first rest one other holds = loses one first (rest ++ other) (subst (λ (l : List Submitted). Q (one ++ l)) (append_assoc first rest other) holds)

  -- element by element
  keeps_flat : {A : Type 0} (f g : A → List Submitted) (xs : List A) → All (λ x. Keeps Q (f x) (g x)) xs → Keeps Q (flat_map f xs) (flat_map g xs)
  keeps_flat f g [] keeps one other holds = holds
  keeps_flat f g (x ∷ xs) keeps one other holds =
      let here : Q (one ++ (g x ++ (flat_map f xs ++ other))) =
      All-head (λ y. Keeps Q (f y) (g y)) x xs keeps one (flat_map f xs ++ other) (subst (λ (l : List Submitted). Q (one ++ l)) (append_assoc (f x) (flat_map f xs) other) holds) in
      let rest : Q ((one ++ g x) ++ (flat_map g xs ++ other)) =
      keeps_flat f g xs (All-tail (λ y. Keeps Q (f y) (g y)) x xs keeps) (one ++ g x) other (subst Q (sym (append_assoc one (g x) (flat_map f xs ++ other))) here) in
      subst Q (append_assoc one (g x) (flat_map g xs ++ other) ∙ ap (λ (l : List Submitted). one ++ l) (sym (append_assoc (g x) (flat_map g xs) other))) rest

  -- link by link
  keeps_among : (recorded before next recent : Record) (old new : ℕ → ℕ → List Envelope) (slots : List ℕ)
      → ((x y : ℕ) → Keeps Q (submitted_on recorded before x (old x y)) (submitted_on next recent x (new x y)))
      → Q (submitted_among recorded before old slots) → Q (submitted_among next recent new slots)
  keeps_among recorded before next recent old new slots keeps holds =
      let all : Keeps Q (submitted_among recorded before old slots) (submitted_among next recent new slots) =
      keeps_flat (submitted_from recorded before old slots) (submitted_from next recent new slots) slots
      (λ k d lt.
      let x = get_or slots k d in
      keeps_flat (λ y. submitted_on recorded before x (old x y)) (λ y. submitted_on next recent x (new x y)) slots (λ i e within. keeps x (get_or slots i e))) in
      subst Q (append-nil (submitted_among next recent new slots)) (all [] [] (subst Q (sym (append-nil (submitted_among recorded before old slots))) holds))

  -- the first message of a link is taken
  keeps_taken : (recorded before : Record) (old new : ℕ → ℕ → List Envelope) (slots : List ℕ) (from to : ℕ) (envelope : Envelope) → HasTaken from to envelope old new
      → Q (submitted_among recorded before old slots) → Q (submitted_among recorded before new slots)
  keeps_taken recorded before old new slots from to envelope taken = keeps_among recorded before recorded before old new slots (λ x y. elim (cases_eq x from) [
    | inl from_it ↦ elim (cases_eq y to) [
      | inl to_it ↦
          subst (λ (k : ℕ). Keeps Q (submitted_on recorded before k (old k y)) (submitted_on recorded before k (new k y))) (sym from_it)
          (subst (λ (k : ℕ). Keeps Q (submitted_on recorded before from (old from k)) (submitted_on recorded before from (new from k))) (sym to_it)
          (subst (λ (l : List Envelope). Keeps Q (submitted_on recorded before from l) (submitted_on recorded before from (new from to))) (sym taken.first)
          (keeps_behind (submitted_in from (incarnation_at recorded before envelope.epoch from) envelope.message) (submitted_on recorded before from (new from to)))))
      | inr other_slot ↦ keeps_same (submitted_on recorded before x (old x y)) (submitted_on recorded before x (new x y)) (ap (submitted_on recorded before x) (taken.others x y (λ is. other_slot)))
    ]
    | inr other_slot ↦ keeps_same (submitted_on recorded before x (old x y)) (submitted_on recorded before x (new x y)) (ap (submitted_on recorded before x) (taken.others x y (λ is. absurd (other_slot is))))
  ])

  -- the next record is recorded
  module _ (recorded before next : Record) (later : next.epoch ≡ suc recorded.epoch) where
    -- of its epoch the incarnation is what it was
    incarnation_same : (epoch slot : ℕ) → epoch ≡ recorded.epoch → incarnation_at next recorded epoch slot ≡ incarnation_at recorded before epoch slot
    incarnation_same epoch slot is =
        let old : Option ℕ = incarnation_in recorded slot in
        cond-false (epoch == next.epoch) (incarnation_in next slot) (if suc epoch == next.epoch then old else None) (ne_eqb epoch next.epoch (λ (same : epoch ≡ next.epoch). omega arith))
        ∙ cond-true (suc epoch == next.epoch) old None (eq-eqb (suc epoch) next.epoch (omega arith))
        ∙ sym (cond-true (epoch == recorded.epoch) old (if suc epoch == recorded.epoch then incarnation_in before slot else None) (eq-eqb epoch recorded.epoch is))

    -- and of an older one there is none
    incarnation_none : (epoch slot : ℕ) → epoch ≤ recorded.epoch → epoch ≢ recorded.epoch → incarnation_at next recorded epoch slot ≡ None
    incarnation_none epoch slot le apart =
        cond-false (epoch == next.epoch) (incarnation_in next slot) (if suc epoch == next.epoch then incarnation_in recorded slot else None) (ne_eqb epoch next.epoch (λ (same : epoch ≡ next.epoch). omega arith))
        ∙ cond-false (suc epoch == next.epoch) (incarnation_in recorded slot) None (ne_eqb (suc epoch) next.epoch (λ (same : suc epoch ≡ next.epoch). apart (omega arith)))

    keeps_envelope : (slot : ℕ) (e : Envelope) → e.epoch ≤ recorded.epoch
        → Keeps Q (submitted_in slot (incarnation_at recorded before e.epoch slot) e.message) (submitted_in slot (incarnation_at next recorded e.epoch slot) e.message)
    keeps_envelope slot e le =
        let was = submitted_in slot (incarnation_at recorded before e.epoch slot) e.message in
        let is = submitted_in slot (incarnation_at next recorded e.epoch slot) e.message in
        elim (cases_eq e.epoch recorded.epoch) [
          | inl now ↦ keeps_same was is (ap (λ (o : Option ℕ). submitted_in slot o e.message) (incarnation_same e.epoch slot now))
          | inr apart ↦ keeps_none was is (ap (λ (o : Option ℕ). submitted_in slot o e.message) (incarnation_none e.epoch slot le apart))
        ]

    keeps_recorded : (submits : ℕ → ℕ → List Envelope) (slots : List ℕ) → ((from to : ℕ) → All (λ e. e.epoch ≤ recorded.epoch) (submits from to))
        → Q (submitted_among recorded before submits slots) → Q (submitted_among next recorded submits slots)
    keeps_recorded submits slots within = keeps_among recorded before next recorded submits submits slots (λ x y.
        keeps_flat (λ e. submitted_in x (incarnation_at recorded before e.epoch x) e.message) (λ e. submitted_in x (incarnation_at next recorded e.epoch x) e.message) (submits x y)
        (λ k d lt. keeps_envelope x (get_or (submits x y) k d) (within x y k d lt)))

-- ---- what is left stands for the same

-- it stands for a state of the machine with fewer of them
stands_with_fewer : (backed : ℕ) (r : Requests) (s : State) (one some other : List Submitted) → StandsFor backed (record r { submits = one ++ (some ++ other) }) s
    → StandsFor backed (record r { submits = one ++ other }) s
stands_with_fewer backed r s one some other stands = loses_submits backed (record r { submits = one ++ (some ++ other) }) one some other refl s stands

-- What holds of the writes between some slots holds of those between fewer.
module _ (Q : List Submitted → Type 0) (loses : (one some other : List Submitted) → Q (one ++ (some ++ other)) → Q (one ++ other)) (recorded before : Record) (submits : ℕ → ℕ → List Envelope) (xs : List ℕ) (y : ℕ) (ys : List ℕ) where
  -- to fewer
  keeps_from : (from : ℕ) → Keeps Q (submitted_from recorded before submits (xs ++ y ∷ ys) from) (submitted_from recorded before submits (xs ++ ys) from)
  keeps_from from one other holds =
      let f = λ (to : ℕ). submitted_on recorded before from (submits from to) in
      let whole : one ++ (flat_map f (xs ++ y ∷ ys) ++ other) ≡ (one ++ flat_map f xs) ++ (f y ++ (flat_map f ys ++ other)) =
      ap (λ (l : List Submitted). one ++ (l ++ other)) (flat_map-append f xs (y ∷ ys)) ∙ ap (λ (l : List Submitted). one ++ l) (append_assoc (flat_map f xs) (f y ++ flat_map f ys) other)
      ∙ sym (append_assoc one (flat_map f xs) ((f y ++ flat_map f ys) ++ other)) ∙ ap (λ (l : List Submitted). (one ++ flat_map f xs) ++ l) (append_assoc (f y) (flat_map f ys) other) in
      let left : (one ++ flat_map f xs) ++ (flat_map f ys ++ other) ≡ one ++ (flat_map f (xs ++ ys) ++ other) =
      append_assoc one (flat_map f xs) (flat_map f ys ++ other) ∙ ap (λ (l : List Submitted). one ++ l) (sym (append_assoc (flat_map f xs) (flat_map f ys) other))
      ∙ ap (λ (l : List Submitted). one ++ (l ++ other)) (sym (flat_map-append f xs ys)) in
      subst Q left (loses (one ++ flat_map f xs) (f y) (flat_map f ys ++ other) (subst Q whole holds))

  -- and from fewer
  keeps_fewer : Q (submitted_among recorded before submits (xs ++ y ∷ ys)) → Q (submitted_among recorded before submits (xs ++ ys))
  keeps_fewer holds =
      let old = submitted_from recorded before submits (xs ++ y ∷ ys) in
      let new = submitted_from recorded before submits (xs ++ ys) in
      let one : Q (flat_map old xs ++ (old y ++ flat_map old ys)) = subst Q (flat_map-append old xs (y ∷ ys)) holds in
      let less : Q (flat_map old (xs ++ ys)) = subst Q (sym (flat_map-append old xs ys)) (loses (flat_map old xs) (old y) (flat_map old ys) one) in
      let each : Keeps Q (flat_map old (xs ++ ys)) (flat_map new (xs ++ ys)) = keeps_flat Q loses old new (xs ++ ys) (λ k d lt. keeps_from (get_or (xs ++ ys) k d)) in
      subst Q (append-nil (flat_map new (xs ++ ys))) (each [] [] (subst Q (sym (append-nil (flat_map old (xs ++ ys)))) less))

pub slots_submits : (backed : ℕ) (r : Requests) (recorded before : Record) (submits : ℕ → ℕ → List Envelope) (xs : List ℕ) (y : ℕ) (ys : List ℕ)
    → Stays backed (record r { submits = submitted_among recorded before submits (xs ++ y ∷ ys) }) (record r { submits = submitted_among recorded before submits (xs ++ ys) })
slots_submits backed r recorded before submits xs y ys s = keeps_fewer (λ l. StandsFor backed (record r { submits = l }) s) (stands_with_fewer backed r s) recorded before submits xs y ys

pub fewer_slots : (P : Submitted → Type 0) (recorded before : Record) (submits : ℕ → ℕ → List Envelope) (xs : List ℕ) (y : ℕ) (ys : List ℕ)
    → All P (submitted_among recorded before submits (xs ++ y ∷ ys)) → All P (submitted_among recorded before submits (xs ++ ys))
fewer_slots P recorded before submits xs y ys = keeps_fewer (All P) (all_without_some P) recorded before submits xs y ys

-- ---- a message is taken

-- Its write is lost, if it is one that counts.
pub takes_submit : (backed : ℕ) (r : Requests) (recorded before : Record) (old new : ℕ → ℕ → List Envelope) (slots : List ℕ) (from to : ℕ) (envelope : Envelope)
    → AllPairs (λ slot other. slot ≢ other) slots → HasTaken from to envelope old new
    → Stays backed (record r { submits = submitted_among recorded before old slots }) (record r { submits = submitted_among recorded before new slots })
takes_submit backed r recorded before old new slots from to envelope apart taken s =
    keeps_taken (λ l. StandsFor backed (record r { submits = l }) s) (stands_with_fewer backed r s) recorded before old new slots from to envelope taken

-- What holds of each write holds of each one that is left.
pub fewer_submits : (P : Submitted → Type 0) (recorded before : Record) (old new : ℕ → ℕ → List Envelope) (slots : List ℕ) (from to : ℕ) (envelope : Envelope)
    → AllPairs (λ slot other. slot ≢ other) slots → HasTaken from to envelope old new → All P (submitted_among recorded before old slots) → All P (submitted_among recorded before new slots)
fewer_submits P recorded before old new slots from to envelope apart taken = keeps_taken (All P) (all_without_some P) recorded before old new slots from to envelope taken

-- ---- a record

-- Of messages of older epochs than the chain before the next one the writes are lost.
pub recorded_submits : (backed : ℕ) (r : Requests) (recorded before next : Record) (submits : ℕ → ℕ → List Envelope) (slots : List ℕ)
    → next.epoch ≡ suc recorded.epoch → ((from to : ℕ) → All (λ e. e.epoch ≤ recorded.epoch) (submits from to))
    → Stays backed (record r { submits = submitted_among recorded before submits slots }) (record r { submits = submitted_among next recorded submits slots })
recorded_submits backed r recorded before next submits slots later within s =
    keeps_recorded (λ l. StandsFor backed (record r { submits = l }) s) (stands_with_fewer backed r s) recorded before next later submits slots within

-- What holds of each write holds of each one that still counts.
pub fewer_recorded : (P : Submitted → Type 0) (recorded before next : Record) (submits : ℕ → ℕ → List Envelope) (slots : List ℕ)
    → next.epoch ≡ suc recorded.epoch → ((from to : ℕ) → All (λ e. e.epoch ≤ recorded.epoch) (submits from to))
    → All P (submitted_among recorded before submits slots) → All P (submitted_among next recorded submits slots)
fewer_recorded P recorded before next submits slots later within = keeps_recorded (All P) (all_without_some P) recorded before next later submits slots within

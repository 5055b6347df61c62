-- Which incarnation a record has at a slot: lemmas.
use Rattle.std.proofs.Common.{◌≡◌, ◌≢◌, inl, inr, ℕ, suc, ◌≤◌, true, is_some, Option, None, Some, List, [], ◌∷◌, ◌++◌, map, option_map, refl, sym, ◌∙◌, ap, subst, arith}
use Rattle.std.specs.Prelude.{slice_get}
use Rattle.std.specs.List.{Contains}
use Rattle.std.proofs.lemmas.Bool.{cases_eq}
use Rattle.std.proofs.lemmas.List.Elements.{All-weaker}
use Rattle.std.proofs.lemmas.Option.{same_Some}
use Rattle.configurations.specs.Record.{Record}
use Rattle.configurations.specs.declared.member.Member as entries
use Rattle.chain_steps.specs.Place.{Standing, incarnation_in, is_member, member_at}
use Rattle.world_model.proofs.Counting.{all_got}
use Rattle.chain_model.specs.Chain.{IsDated, IsIfThere}
use Rattle.chain_model.proofs.PlaceSteps.{is_placed, place_further, place_here, place_of, some_next}

-- ---- the incarnation at a slot, one member further

abbrev pub with_entries : ℕ → List entries.Member → Record
with_entries e ms = record { epoch = e; members = ms }

abbrev pub slots : List entries.Member → List ℕ
slots ms = map (λ m. m.slot) ms

abbrev pub incarnation_at_place : ℕ → List entries.Member → Option ℕ → Option ℕ
incarnation_at_place e ms o = option_map (λ (m : entries.Member). m.incarnation) (member_at (with_entries e ms) o)

-- what stands at a place, one member further
at_shift : (e : ℕ) (x : entries.Member) (xs : List entries.Member) (o : Option ℕ) → incarnation_at_place e (x ∷ xs) (option_map suc o) ≡ incarnation_at_place e xs o
at_shift e x xs None = refl
at_shift e x xs (Some k) = refl

-- of the first one's slot it is its incarnation, and of any other slot that of the rest
pub incarnation_here : (e : ℕ) (x : entries.Member) (xs : List entries.Member) (s : ℕ) → x.slot ≡ s → incarnation_in (with_entries e (x ∷ xs)) s ≡ Some x.incarnation
incarnation_here e x xs s is = ap (incarnation_at_place e (x ∷ xs)) (place_here x xs s is)

pub incarnation_further : (e : ℕ) (x : entries.Member) (xs : List entries.Member) (s : ℕ) → x.slot ≢ s → incarnation_in (with_entries e (x ∷ xs)) s ≡ incarnation_in (with_entries e xs) s
incarnation_further e x xs s apart = ap (incarnation_at_place e (x ∷ xs)) (place_further x xs s apart) ∙ at_shift e x xs (place_of xs s)

-- the epoch is no matter
pub of_any_epoch : (e f : ℕ) (ms : List entries.Member) (o : Option ℕ) → incarnation_at_place e ms o ≡ incarnation_at_place f ms o
of_any_epoch e f ms None = refl
of_any_epoch e f ms (Some k) = refl

-- without one member the others are as they were
pub same_without : (e : ℕ) (before : List entries.Member) (removed : entries.Member) (behind : List entries.Member) (s : ℕ) → removed.slot ≢ s
    → incarnation_in (with_entries e (before ++ behind)) s ≡ incarnation_in (with_entries e (before ++ removed ∷ behind)) s
same_without e [] removed behind s apart = sym (incarnation_further e removed behind s apart)
same_without e (x ∷ before) removed behind s apart = elim (cases_eq x.slot s) [
  | inl here ↦ incarnation_here e x (before ++ behind) s here ∙ sym (incarnation_here e x (before ++ removed ∷ behind) s here)
  | inr other ↦ incarnation_further e x (before ++ behind) s other ∙ same_without e before removed behind s apart ∙ sym (incarnation_further e x (before ++ removed ∷ behind) s other)
]

-- ---- one that stands in a chain

-- a slot with a place has an incarnation
placed_so : (e : ℕ) (ms : List entries.Member) (s : ℕ) → is_some (place_of ms s) ≡ true → incarnation_in (with_entries e ms) s ≢ None
placed_so e [] s placed none = absurd cc
placed_so e (x ∷ xs) s placed none = elim (cases_eq x.slot s) [
  | inl here ↦ let no : Some x.incarnation ≡ None = sym (incarnation_here e x xs s here) ∙ none in cc
  | inr other ↦ placed_so e xs s (sym (some_next (place_of xs s)) ∙ ap is_some (sym (place_further x xs s other)) ∙ placed) (sym (incarnation_further e x xs s other) ∙ none)
]

-- this one itself is there
pub is_itself : (incarnation : ℕ) → IsIfThere incarnation (Some incarnation)
is_itself incarnation other is = sym (same_Some incarnation other is)

-- a slot of the chain has one
pub recorded_there : (e : ℕ) (ms : List entries.Member) (s : ℕ) → Contains (slots ms) s → incarnation_in (with_entries e ms) s ≢ None
recorded_there e ms s there = placed_so e ms s (is_placed ms s there)

-- if nobody else is there, it is itself
pub its_own : (place : Standing) (incarnation : ℕ) → is_member place ≡ true → IsIfThere incarnation (incarnation_in place.chain place.slot) → incarnation_in place.chain place.slot ≡ Some incarnation
its_own place incarnation placed is = by (incarnation_in place.chain place.slot) refl is
  where
    by : (o : Option ℕ) → incarnation_in place.chain place.slot ≡ o → IsIfThere incarnation o → o ≡ Some incarnation
    by None none is = absurd (placed_so place.chain.epoch place.chain.members place.slot placed none)
    by (Some other) some is = ap Some (is other refl)

-- ---- incarnations up to the youngest

-- those up to one are up to a later one
pub later_dated : (youngest later : ℕ) (r : Record) → youngest ≤ later → IsDated youngest r → IsDated later r
later_dated youngest later r le dated = All-weaker (λ (m : entries.Member). m.incarnation ≤ youngest) (λ m. m.incarnation ≤ later) (λ m is. omega (arith, is, le)) r.members dated

-- what is recorded at a slot is of such an incarnation
pub dated_in : (youngest : ℕ) (r : Record) (slot incarnation : ℕ) → IsDated youngest r → incarnation_in r slot ≡ Some incarnation → incarnation ≤ youngest
dated_in youngest r slot incarnation dated is = by (place_of r.members slot) is
  where
    there : (k : ℕ) (o : Option entries.Member) → slice_get r.members k ≡ o → option_map (λ (m : entries.Member). m.incarnation) o ≡ Some incarnation → incarnation ≤ youngest
    there k None none found = absurd cc
    there k (Some m) some found = subst (λ i. i ≤ youngest) (same_Some m.incarnation incarnation found) (all_got (λ (x : entries.Member). x.incarnation ≤ youngest) r.members k m some dated)

    by : (o : Option ℕ) → option_map (λ (m : entries.Member). m.incarnation) (member_at r o) ≡ Some incarnation → incarnation ≤ youngest
    by None found = absurd cc
    by (Some k) found = there k (slice_get r.members k) refl found

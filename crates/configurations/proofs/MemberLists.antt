-- Members of a chain, each slot once.
use Rattle.std.proofs.Common.{◌≡◌, ◌≢◌, ℕ, ◌+◌, ◌<◌, List, length, get_or, take, sym, ◌∙◌, ap, subst, arith}
use Rattle.std.specs.Prelude.{AllPairs, Any}
use Rattle.std.proofs.lemmas.List.{get_or_default, get_or-take, length-take, take_more}
use Rattle.std.proofs.lemmas.List.Quantifiers.{all_pairs_push}
use Rattle.configurations.specs.declared.member.Member.{Member}

abbrev slot_of : Member → ℕ
slot_of member = member.slot

abbrev Once : List Member → Type 0
Once members = AllPairs (λ (a b : Member). a.slot ≢ b.slot) members

module _ (members : List Member) (i : ℕ) (here : Member) (lt : i < length members) (is_here : here ≡ get_or members i here) where
  -- a slot that isn't among those before it
  pub once_more : Once (take i members) → (Any (λ (member : Member). member.slot ≡ here.slot) (take i members) → ⊥) → Once (take (i + 1) members)
  once_more pairs new =
      let front = take i members in
      subst Once (sym (take_more members i here lt))
      (all_pairs_push (λ (a b : Member). a.slot ≢ b.slot) front (get_or members i here) pairs
      (λ k e below same. new (k, get_or front k e, below, get_or_default front k (get_or front k e) e below, same ∙ sym (ap slot_of is_here))))

  -- and one that is
  pub not_once : Any (λ (member : Member). member.slot ≡ here.slot) (take i members) → Once members → ⊥
  not_once (k, x, below, is, same) pairs =
      let before : k < i = omega (arith, length-take i members) in
      let found : get_or members k here ≡ x = sym (get_or-take i members k here before) ∙ get_or_default (take i members) k here x below ∙ is in
      pairs k i here before lt (ap slot_of found ∙ same ∙ ap slot_of is_here)

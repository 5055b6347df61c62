-- Where the clients of sessions stand: lemmas.
use Rattle.std.proofs.Common.{◌≡◌, ℕ, zero, suc, ◌+◌, ◌<◌, cond, eqb, Bool, Option, Some, None, List, [], ◌∷◌, ◌++◌, length, map, set, get_or, refl, sym, ◌∙◌, ap, subst, inl, inr, true, arith}
use Rattle.std.specs.Prelude.{◌≢◌, ◌⊎◌, ◌≤◌, ◌==◌, slice_get}
use Rattle.std.specs.List.{AllPairs, position_from}
use Rattle.std.proofs.Math.Seq.{map-set_same}
use Rattle.std.proofs.lemmas.Bool.{cases_eq, cases_lt, cond-true, cond-false, eq-eqb, eqb-true, ne_eqb}
use Rattle.std.proofs.lemmas.Iterator.Adapters.{position_from-zero}
use Rattle.std.proofs.lemmas.List.{get_or-map, length-map}
use Rattle.std.proofs.lemmas.List.Quantifiers.{position-Some}
use Rattle.std.proofs.lemmas.Option.{get_or_from_slice_get, slice_get_within}
use Rattle.flush_barrier.specs.declared.session_id.SessionId.{SessionId}
use Rattle.clients.specs.Clients.{Client, place_of}

pub same_id : (one other : SessionId) → one.0 ≡ other.0 → one ≡ other
same_id one other same = ap (λ (n : ℕ). let id : SessionId = record { 0 = n } in id) same

abbrev pub id_of : Client → SessionId
id_of client = client.session.id

abbrev is_of : SessionId → Client → Bool
is_of id client = client.session.id.0 == id.0

-- ---- by numbers alone

from_ids : (id : SessionId) (i : ℕ) (cs : List Client)
    → position_from (is_of id) i cs ≡ position_from (λ (one : SessionId). one.0 == id.0) i (map id_of cs)
from_ids id i [] = refl
from_ids id i (c ∷ cs) = ap (λ (rest : Option ℕ). cond (eqb c.session.id.0 id.0) (Some i) rest) (from_ids id (i + 1) cs)

-- clients of the same numbers stand at the same places
pub place_by_ids : (id : SessionId) (cs others : List Client) → map id_of cs ≡ map id_of others → place_of id cs ≡ place_of id others
place_by_ids id cs others same =
    position_from-zero (is_of id) cs ∙ from_ids id 0 cs
    ∙ ap (λ (ids : List SessionId). position_from (λ (one : SessionId). one.0 == id.0) 0 ids) same
    ∙ sym (from_ids id 0 others) ∙ sym (position_from-zero (is_of id) others)

-- ---- who stands there

-- the client at the place has the number
pub place_is : (id : SessionId) (cs : List Client) (place : ℕ) (client : Client) → place_of id cs ≡ Some place
    → slice_get cs place ≡ Some client → client.session.id ≡ id
place_is id cs place client there here =
    let passes : is_of id client ≡ true =
    subst (λ (c : Client). is_of id c ≡ true) (get_or_from_slice_get cs place client client here)
    (position-Some (is_of id) cs place client there).1 in
    same_id client.session.id id (eqb-true client.session.id.0 id.0 passes)

abbrev pub IsApart : Client → Client → Type 0
IsApart one other = one.session.id.0 ≢ other.session.id.0

-- the others have other numbers
pub apart_at : (cs : List Client) (place k : ℕ) (client d : Client) → AllPairs IsApart cs → slice_get cs place ≡ Some client → k ≢ place
    → k < length cs → client.session.id.0 ≢ (get_or cs k d).session.id.0
apart_at cs place k client d apart here past within =
    let is : get_or cs place d ≡ client = get_or_from_slice_get cs place client d here in
    let inside : place < length cs = slice_get_within cs place client here in
    elim (cases_lt k place) [
      | inl before ↦ λ same. apart k place d before inside (sym same ∙ ap (λ (c : Client). c.session.id.0) (sym is))
      | inr behind ↦ λ same. apart place k d (omega arith) within (ap (λ (c : Client). c.session.id.0) is ∙ same)
    ]

-- ---- nobody stands there

from_none : (id : SessionId) (i : ℕ) (cs : List Client) → position_from (is_of id) i cs ≡ None → (k : ℕ) (d : Client) → k < length cs
    → (get_or cs k d).session.id.0 ≢ id.0
from_none id i [] none k d within = absurd (omega arith)
from_none id i (c ∷ cs) none k d within = elim (cases_eq c.session.id.0 id.0) [
  | inl same ↦ let some : Some i ≡ None =
      sym (cond-true (eqb c.session.id.0 id.0) (Some i) (position_from (is_of id) (i + 1) cs) (eq-eqb c.session.id.0 id.0 same))
      ∙ none in absurd cc
  | inr other ↦
      let rest : position_from (is_of id) (i + 1) cs ≡ None =
      sym (cond-false (eqb c.session.id.0 id.0) (Some i) (position_from (is_of id) (i + 1) cs) (ne_eqb c.session.id.0 id.0 other))
      ∙ none in
      past id i c cs other (from_none id (i + 1) cs rest) k d within
]
  where
    past : (id : SessionId) (i : ℕ) (c : Client) (cs : List Client) → c.session.id.0 ≢ id.0
        → ((k : ℕ) (d : Client) → k < length cs → (get_or cs k d).session.id.0 ≢ id.0) → (k : ℕ) (d : Client) → k < length (c ∷ cs)
        → (get_or (c ∷ cs) k d).session.id.0 ≢ id.0
    past id i c cs other rest zero d within = other
    past id i c cs other rest (suc k) d within = rest k d (omega arith)

-- nobody has this number
pub none_there : (id : SessionId) (cs : List Client) → place_of id cs ≡ None → (k : ℕ) (d : Client) → k < length cs
    → (get_or cs k d).session.id.0 ≢ id.0
none_there id cs none = from_none id 0 cs (sym (position_from-zero (is_of id) cs) ∙ none)

from_pushed : (id : SessionId) (i : ℕ) (cs : List Client) (client : Client) → position_from (is_of id) i (cs ++ client ∷ []) ≡ None
    → position_from (is_of id) i cs ≡ None
from_pushed id i [] client none = refl
from_pushed id i (c ∷ cs) client none = elim (cases_eq c.session.id.0 id.0) [
  | inl same ↦ let some : Some i ≡ None =
      sym (cond-true (eqb c.session.id.0 id.0) (Some i) (position_from (is_of id) (i + 1) (cs ++ client ∷ []))
      (eq-eqb c.session.id.0 id.0 same)) ∙ none in absurd cc
  | inr other ↦
      let rest : position_from (is_of id) (i + 1) (cs ++ client ∷ []) ≡ None =
      sym (cond-false (eqb c.session.id.0 id.0) (Some i) (position_from (is_of id) (i + 1) (cs ++ client ∷ []))
      (ne_eqb c.session.id.0 id.0 other)) ∙ none in
      cond-false (eqb c.session.id.0 id.0) (Some i) (position_from (is_of id) (i + 1) cs) (ne_eqb c.session.id.0 id.0 other)
      ∙ from_pushed id (i + 1) cs client rest
]

-- a number that nobody has once a client came, nobody had
pub none_before : (id : SessionId) (cs : List Client) (client : Client) → place_of id (cs ++ client ∷ []) ≡ None → place_of id cs ≡ None
none_before id cs client none = position_from-zero (is_of id) cs
    ∙ from_pushed id 0 cs client (sym (position_from-zero (is_of id) (cs ++ client ∷ [])) ∙ none)

from_there : (id : SessionId) (i : ℕ) (cs : List Client) (client : Client) (place : ℕ) → position_from (is_of id) i cs ≡ Some place
    → position_from (is_of id) i (cs ++ client ∷ []) ≡ Some place
from_there id i [] client place there = let none : None ≡ Some place = there in absurd (cc)
from_there id i (c ∷ cs) client place there = elim (cases_eq c.session.id.0 id.0) [
  | inl same ↦
      let is = eq-eqb c.session.id.0 id.0 same in
      cond-true (eqb c.session.id.0 id.0) (Some i) (position_from (is_of id) (i + 1) (cs ++ client ∷ [])) is
      ∙ sym (cond-true (eqb c.session.id.0 id.0) (Some i) (position_from (is_of id) (i + 1) cs) is) ∙ there
  | inr other ↦
      let no = ne_eqb c.session.id.0 id.0 other in
      cond-false (eqb c.session.id.0 id.0) (Some i) (position_from (is_of id) (i + 1) (cs ++ client ∷ [])) no
      ∙ from_there id (i + 1) cs client place (sym (cond-false (eqb c.session.id.0 id.0) (Some i) (position_from (is_of id) (i + 1) cs) no) ∙ there)
]

-- who has a place keeps it when a client comes
pub place_before : (id : SessionId) (cs : List Client) (client : Client) (place : ℕ) → place_of id cs ≡ Some place → place_of id (cs ++ client ∷ []) ≡ Some place
place_before id cs client place there = position_from-zero (is_of id) (cs ++ client ∷ [])
    ∙ from_there id 0 cs client place (sym (position_from-zero (is_of id) cs) ∙ there)

from_came : (id : SessionId) (i : ℕ) (cs : List Client) (client : Client) (place : ℕ) → position_from (is_of id) i (cs ++ client ∷ []) ≡ Some place
    → (position_from (is_of id) i cs ≡ Some place) ⊎ ((position_from (is_of id) i cs ≡ None) × (place ≡ i + length cs))
from_came id i [] client place there = elim (cases_eq client.session.id.0 id.0) [
  | inl same ↦
      let here : Some i ≡ Some place = sym (cond-true (eqb client.session.id.0 id.0) (Some i) None (eq-eqb client.session.id.0 id.0 same)) ∙ there in
      let is : i ≡ place = cc here in inr (refl, omega (arith, is))
  | inr other ↦
      let no : None ≡ Some place = sym (cond-false (eqb client.session.id.0 id.0) (Some i) None (ne_eqb client.session.id.0 id.0 other)) ∙ there in absurd (cc)
]
from_came id i (c ∷ cs) client place there = elim (cases_eq c.session.id.0 id.0) [
  | inl same ↦
      let is = eq-eqb c.session.id.0 id.0 same in
      inl (cond-true (eqb c.session.id.0 id.0) (Some i) (position_from (is_of id) (i + 1) cs) is
      ∙ sym (cond-true (eqb c.session.id.0 id.0) (Some i) (position_from (is_of id) (i + 1) (cs ++ client ∷ [])) is) ∙ there)
  | inr other ↦
      let no = ne_eqb c.session.id.0 id.0 other in
      elim (from_came id (i + 1) cs client place (sym (cond-false (eqb c.session.id.0 id.0) (Some i) (position_from (is_of id) (i + 1) (cs ++ client ∷ [])) no) ∙ there)) [
        | inl was ↦ inl (cond-false (eqb c.session.id.0 id.0) (Some i) (position_from (is_of id) (i + 1) cs) no ∙ was)
        | inr (none, last) ↦ inr (cond-false (eqb c.session.id.0 id.0) (Some i) (position_from (is_of id) (i + 1) cs) no ∙ none, omega (arith, last))
      ]
]

-- who has a place once a client came had it, or came behind all
pub place_came : (id : SessionId) (cs : List Client) (client : Client) (place : ℕ) → place_of id (cs ++ client ∷ []) ≡ Some place
    → (place_of id cs ≡ Some place) ⊎ ((place_of id cs ≡ None) × (length cs ≤ place))
place_came id cs client place there = elim (from_came id 0 cs client place (sym (position_from-zero (is_of id) (cs ++ client ∷ [])) ∙ there)) [
  | inl was ↦ inl (position_from-zero (is_of id) cs ∙ was)
  | inr (none, last) ↦ inr (position_from-zero (is_of id) cs ∙ none, omega (arith, last))
]

-- ---- one of them changes

pub ids_stay : (cs : List Client) (place : ℕ) (before after : Client) → slice_get cs place ≡ Some before
    → after.session.id ≡ before.session.id → map id_of (set cs place after) ≡ map id_of cs
ids_stay cs place before after here same = map-set_same id_of cs place after before (same
    ∙ ap id_of (sym (get_or_from_slice_get cs place before before here)))

-- those who have the same numbers are as far apart
pub apart_by_ids : (cs others : List Client) → map id_of cs ≡ map id_of others → AllPairs IsApart others → AllPairs IsApart cs
apart_by_ids cs others same apart i j d less within =
    let long : length cs ≡ length others = sym (length-map cs id_of) ∙ ap length same ∙ length-map others id_of in
    let id_at : (k : ℕ) → k < length cs → (get_or cs k d).session.id ≡ (get_or others k d).session.id =
    λ k inside. sym (get_or-map id_of cs k d d.session.id inside) ∙ ap (λ (ids : List SessionId). get_or ids k d.session.id) same
    ∙ get_or-map id_of others k d d.session.id (omega arith) in
    λ equal. apart i j d less (omega arith) (ap (λ (id : SessionId). id.0) (sym (id_at i (omega arith))) ∙ equal
    ∙ ap (λ (id : SessionId). id.0) (id_at j within))

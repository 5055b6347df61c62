-- What is left of a list of demands, while they are taken from its end.
use Rattle.std.proofs.Common.{◌≡◌, ◌≤◌, ◌<◌, ◌+◌, ◌∙◌, ℕ, List, [], ◌∷◌, ◌++◌, length, ap, arith, refl, subst, sym}
use Rattle.std.specs.Prelude.{All, Option, None, Some, IfSome}
use Rattle.std.proofs.lemmas.List.{append_assoc, append-nil, length-append}
use Rattle.std.proofs.lemmas.List.Elements.{All-cons, All-head, All-nil, All-tail}
use Rattle.flush_barrier.specs.Reply.{GivenReply}
use Rattle.nbd_session.specs.Demand.{owed_by}
use Rattle.nbd_session.specs.declared.demand.Demand.{Demand}
use Rattle.export.specs.Volume.{HasTaken, IsRefusalOf, RefusesLast}

-- the first list, but for what was taken from its end
pub record IsRest (old new : List Demand) : Type 0 where
  pub taken : List Demand
  pub split : old ≡ new ++ taken

pub whole : (old : List Demand) → IsRest old old
whole old = record { taken = []; split = sym (append-nil old) }

less_split : (old prev new taken : List Demand) (demand : Demand) → old ≡ prev ++ taken → prev ≡ new ++ demand ∷ [] → old ≡ new ++ demand ∷ taken
less_split old prev new taken demand split popped = split ∙ ap (λ list. list ++ taken) popped ∙ append_assoc new (demand ∷ []) taken

pub one_less : (old prev new : List Demand) (demand : Demand) → IsRest old prev → prev ≡ new ++ demand ∷ [] → IsRest old new
one_less old prev new demand rest popped = record { taken = demand ∷ rest.taken; split = less_split old prev new rest.taken demand rest.split popped }

refusal_of : (demand : Demand) (taken : List Demand) (refused : Option GivenReply) → IfSome refused (IsRefusalOf (owed_by demand)) → IfSome refused (RefusesLast (demand ∷ taken))
refusal_of demand taken None is = tt
refusal_of demand taken (Some reply) is = is

-- the last one was taken, and perhaps refused
pub one_taken : (old prev new : List Demand) (demand : Demand) (refused : Option GivenReply) → IsRest old prev → prev ≡ new ++ demand ∷ []
    → IfSome refused (IsRefusalOf (owed_by demand)) → HasTaken old new refused
one_taken old prev new demand refused rest popped is =
    let split : old ≡ new ++ demand ∷ rest.taken = less_split old prev new rest.taken demand rest.split popped in
    let longer : length old ≡ length new + length (demand ∷ rest.taken) = ap length split ∙ length-append new (demand ∷ rest.taken) in
    record {
      taken = demand ∷ rest.taken;
      split = split;
      some = λ some. omega (arith, longer);
      refusal = refusal_of demand rest.taken refused is;
    }

-- none is left
pub all_taken : (old new : List Demand) → IsRest old new → length new ≡ 0 → HasTaken old new None
all_taken old new rest none = record { taken = rest.taken; split = rest.split; some = λ some. omega (arith, some, none); refusal = tt }

-- what holds of all that there was holds of what is left
pub all_of_rest : (P : Demand → Type 0) (new taken : List Demand) → All P (new ++ taken) → All P new
all_of_rest P [] taken all = All-nil P
all_of_rest P (demand ∷ new) taken all = All-cons P demand new (All-head P demand (new ++ taken) all) (all_of_rest P new taken (All-tail P demand (new ++ taken) all))

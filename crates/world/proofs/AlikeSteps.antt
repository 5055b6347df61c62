-- A call leaves the chain on its board, with its sizes and as many members.
use Rattle.std.proofs.Common.{◌≡◌, ℕ, List, length, ap, sym, subst, ◌∙◌, inl, inr}
use Rattle.std.specs.Prelude.{◌⊎◌}
use Rattle.std.proofs.lemmas.List.{length-set}
use Rattle.flush_barrier.specs.Reply.{GivenReply}
use Rattle.volume.specs.Writes.{Placed}
use Rattle.chain_steps.specs.Steps.{stop, submit}
use Rattle.chain_steps.specs.declared.cause.Cause.TheVariants.{Memory}
use Rattle.chain_steps.specs.declared.message.Envelope.{Envelope}
use Rattle.chain_steps.specs.declared.waiting.WriteToken.{WriteToken}
use Rattle.chain.specs.Asking.{HasSubmitted}
use Rattle.chain.specs.Chain.{Chained, Changes}
use Rattle.chain.specs.Fronts.{HasKnown}
use Rattle.chain.specs.Holding.{HoldsAt}
use Rattle.chain.specs.Member.{Linked}
use Rattle.chain.specs.Passing.{MessageComes, MessageHalts, SubmitComes}
use Rattle.chain.specs.Recording.{HaltsAt, IsToldAt}
use Rattle.world.proofs.InnerSteps.{IsAlike, alike_still}

pub alike_same : {S : Type 0} (old new : Chained S) → new ≡ old → IsAlike old new
alike_same old new same = subst (IsAlike old) (sym same) (alike_still old)

pub alike_changed : {S : Type 0} (at : ℕ) (old new : Chained S) (Did : Linked S → Linked S → Type 0) → Changes at old new Did → IsAlike old new
alike_changed at old new Did changes = record {
  id = ap (λ c. c.id) changes.are;
  geometry = ap (λ c. c.geometry) changes.are;
  many = ap (λ c. length c.members) changes.are ∙ length-set old.members at changes.after;
}

pub alike_held : {S : Type 0} (at : ℕ) (replies : List GivenReply) (old new : Chained S) → HoldsAt at replies old new → IsAlike old new
alike_held at replies old new did = record {
  id = ap (λ c. c.id) did.are;
  geometry = ap (λ c. c.geometry) did.are;
  many = ap (λ c. length c.members) did.are ∙ length-set old.members at (record did.before { node = did.node });
}

pub alike_submitted : {S : Type 0} (at : ℕ) (token : WriteToken) (write : Placed) (old new : Chained S) → HasSubmitted at token write old new → IsAlike old new
alike_submitted at token write old new did = record {
  id = ap (λ c. c.id) did.are;
  geometry = ap (λ c. c.geometry) did.are;
  many = ap (λ c. length c.members) did.are ∙ length-set old.members at (record did.before { node = record { store = did.before.node.store; state = (submit token write did.before.node.state).node } });
}

pub alike_known : {S : Type 0} (at : ℕ) (replies : List GivenReply) (old new : Chained S) → HasKnown at replies old new → IsAlike old new
alike_known at replies old new did = record {
  id = ap (λ c. c.id) did.are;
  geometry = ap (λ c. c.geometry) did.are;
  many = ap (λ c. length c.members) did.are ∙ length-set old.members at (record did.before { node = did.node });
}

alike_halted : {S : Type 0} (links_of : Chained S → List (List Envelope)) (from at : ℕ) (old new : Chained S) (replies : List GivenReply) → MessageHalts links_of from at old new replies → IsAlike old new
alike_halted links_of from at old new replies halts = record {
  id = ap (λ c. c.id) halts.are;
  geometry = ap (λ c. c.geometry) halts.are;
  many = ap (λ c. length c.members) halts.are ∙ length-set old.members at (record halts.before { node = record { store = halts.before.node.store; state = (stop halts.cause halts.before.node.state).node } });
}

pub alike_passed : {S : Type 0} (from at : ℕ) (old new : Chained S) (replies : List GivenReply) → MessageComes from at old new replies → IsAlike old new
alike_passed from at old new replies (inl taken) = record {
  id = ap (λ c. c.id) taken.are;
  geometry = ap (λ c. c.geometry) taken.are;
  many = ap (λ c. length c.members) taken.are ∙ length-set old.members at (record taken.before { node = record { store = taken.before.node.store; state = taken.stepped.node } });
}
alike_passed from at old new replies (inr halts) = alike_halted (λ c. c.links) from at old new replies halts

pub alike_numbered : {S : Type 0} (from at : ℕ) (old new : Chained S) (replies : List GivenReply) → SubmitComes from at old new replies → IsAlike old new
alike_numbered from at old new replies (inl taken) = record {
  id = ap (λ c. c.id) taken.are;
  geometry = ap (λ c. c.geometry) taken.are;
  many = ap (λ c. length c.members) taken.are ∙ length-set old.members at (record taken.before { node = record { store = taken.before.node.store; state = taken.stepped.node } });
}
alike_numbered from at old new replies (inr halts) = alike_halted (λ c. c.submits) from at old new replies halts

pub alike_told : {S : Type 0} (at : ℕ) (old new : Chained S) (replies : List GivenReply) → IsToldAt at old new replies ⊎ HaltsAt at old new replies → IsAlike old new
alike_told at old new replies (inl told) = record {
  id = ap (λ c. c.id) told.are;
  geometry = ap (λ c. c.geometry) told.are;
  many = ap (λ c. length c.members) told.are ∙ length-set old.members at (record told.before { node = record { store = told.before.node.store; state = told.stepped.node } });
}
alike_told at old new replies (inr halts) = record {
  id = ap (λ c. c.id) halts.are;
  geometry = ap (λ c. c.geometry) halts.are;
  many = ap (λ c. length c.members) halts.are ∙ length-set old.members at (record halts.before { node = record { store = halts.before.node.store; state = (stop Memory halts.before.node.state).node } });
}

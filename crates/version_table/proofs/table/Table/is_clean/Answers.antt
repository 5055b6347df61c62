use Rattle.std.proofs.Common.{◌≡◌, ◌∙◌, ◌-◌, sym, arith, inl, inr, refl, []}
use Rattle.std.proofs.lemmas.Bool.{cases_lt, false≢true}
use Rattle.volume.specs.Writes.{IsTouched}
use Rattle.version_table.specs.declared.kept.Kept.{Kept}
use Rattle.version_table.proofs.TableLemmas.{All-from_within, at_place_of_rest, some_from, none_from}
use Rattle.version_table.proofs.table.Table.is_clean.Goals as goal

pub loop-block-init : goal.loop-block-init
loop-block-init c = λ block reached below. let from = ((rw c.from.ensures at c.blocks_of-blocks.ensures.reached) block).0 reached in absurd (omega arith)

pub loop-block-preserved : goal.loop-block-preserved
loop-block-preserved c = λ block reached below. elim (cases_lt block c.loop-block.block) [
  | inl before ↦ c.loop-block.invariant block reached before
  | inr last ↦
      let here : block ≡ c.loop-block.block = omega arith in
      let none = none_from c.next_touching.result (sym c.is_some.ensures ∙ c.if-is_some.false) in
      rw here (All-from_within (λ (k : Kept). ¬ IsTouched k.write c.loop-block.block) c.args.self.now.kept (c.args.k - c.args.self.now.forgotten)
      (λ k d from within. (rw none at c.next_touching.ensures.none) k d from (omega (arith, c.applied.ensures))))
]

pub returns-then-is_some : goal.returns-then-is_some
returns-then-is_some c =
    let found = some_from c.next_touching.result (sym c.is_some.ensures ∙ c.if-is_some.true) in
    let reached = ((rw c.from.ensures at c.blocks_of-blocks.ensures.reached) c.loop-block.block).1 (omega arith, omega arith) in
    let touched = rw found.1 at c.next_touching.ensures.touches in
    let above = rw found.1 at c.next_touching.ensures.above in
    let upto = rw found.1 at c.next_touching.ensures.upto in
    let any : Kept = record { number = 0; write = record { offset = 0; bytes = [] }; origin = record { slot = 0; incarnation = 0; ticket = 0 } } in (
      λ no. absurd (false≢true no),
      λ clean.
          absurd (at_place_of_rest (λ (k : Kept). ¬ IsTouched k.write c.loop-block.block) c.args.self.now.kept (c.args.k - c.args.self.now.forgotten) (found.0 - c.args.self.now.forgotten - 1) any
          (clean c.loop-block.block reached) (omega arith) (omega (arith, c.applied.ensures)) (touched any)),
    )

pub returns : goal.returns
returns c = (λ _ block reached. let within = ((rw c.from.ensures at c.blocks_of-blocks.ensures.reached) block).0 reached in c.loop-block.invariant block reached (omega arith), λ _. refl)

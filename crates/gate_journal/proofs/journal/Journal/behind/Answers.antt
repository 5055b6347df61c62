use Rattle.std.proofs.Common.{◌≡◌, ◌+◌, ◌<◌, ◌^◌, ℕ, ap, subst, ◌∙◌}
use Rattle.std.proofs.Math.Bridge.{le_prop}
use Rattle.disk_model.specs.declared.part.Part.{Part}
use Rattle.gate_journal.specs.Journal.{State, behind_border, part_behind}
use Rattle.gate_journal.proofs.journal.Journal.behind.Goals as goal

-- a part is its two numbers
module _ (part : Part) where
  abbrev Same : ℕ → ℕ → Type 0
  Same start len = (fits : start + len < 2 ^ 64) → part ≡ record { start = start; len = len; fits = fits }

  same_here : Same part.start part.len
  same_here fits = λ i. record { start = part.start; len = part.len; fits = le_prop part.fits fits i }

  same_part : (other : Part) → part.start ≡ other.start → part.len ≡ other.len → part ≡ other
  same_part other start len = subst (λ (n : ℕ). Same n other.len) start (subst (λ (n : ℕ). Same part.start n) len same_here) other.fits

pub returns : goal.returns
returns c =
    let here : State = record { part = c.self.inside.part; slot = c.self.inside.slot; blocks = c.self.inside.blocks; before = c.self.inside.before; front = c.self.inside.front; end = c.self.inside.end; broken = c.self.inside.broken } in
    ap (λ (p : Part). record here { part = p }) (same_part c.new.result (part_behind here.part c.args.border) c.new.ensures.start c.new.ensures.len)
    ∙ ap (λ (s : State). behind_border s c.args.border) c.self.view_is

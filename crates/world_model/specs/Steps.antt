-- Steps as a program takes them: by a request's name, and where they may not be taken not at all.
use Rattle.std.specs.Prelude.{◌≡◌, ◌==◌, ℕ, Bool, false, MatchBool, Option, None, Some, List, [], ◌∷◌, find}
use Rattle.std.specs.Option.{IfSome, option_map, option_and_then}
use Rattle.world_model.specs.Event.{Answered, Done}
use Rattle.world_model.specs.Machine.{AnswerRead, Asked, May, Move, State, Take, after, shows, written}

-- the request of this name, of those sent since the last restart
abbrev pub named : State → ℕ → Option Asked
named s name = find (λ a. a.name == name) s.sent

-- the step that takes its write
abbrev pub taking : State → ℕ → Option Move
taking s name = option_and_then (λ asked. option_map (λ write. Take asked write) (written asked.request)) (named s name)

-- the step was taken, or it may not be taken and nothing changed
abbrev pub Tried : State → Option Move → Bool → State → Type 0
Tried old None done new = (done ≡ false) × (new ≡ old)
Tried old (Some move) done new = MatchBool done (May old move × (new ≡ after old move)) ((May old move → ⊥) × (new ≡ old))

-- the step of the request of this name was taken, or it may not be taken and nothing changed
abbrev pub TriedOn : State → ℕ → (Asked → Move) → Bool → State → Type 0
TriedOn old name step done new = Tried old (option_map step (named old name)) done new

-- the READ of this name, answered from so many writes, shows these bytes
abbrev pub ShowsRead : ℕ → State → ℕ → ℕ → List ℕ → Type 0
ShowsRead size s name front bytes = IfSome (named s name) (λ asked. shows size s (AnswerRead asked front) ≡ Answered asked.session asked.cookie (Done bytes) ∷ [])

-- The rule of a link: what was put is what was taken, and then what the link holds.
use Rattle.std.specs.Prelude.{◌≡◌, ℕ, Bool, true, false, List, [], ◌∷◌, ◌++◌}
use mathlib.Core.Option.{some}
use lib.ListN.{get_elem?}
use Rattle.links.specs.declared.view.View.{View}

module _ {T : Type 0} where
  -- the list begins with these items, in this order
  abbrev pub StartsWith : List T → List T → Type 0
  StartsWith list first = (rest : List T) × (list ≡ first ++ rest)

  -- what a pass may do, and what it knows
  abbrev pub known : Bool → Bool → List T → List T → List T → View T
  known may_put may_take put taken coming = record { puts = may_put; takes = may_take; put = put; taken = taken; coming = coming }

  abbrev pub nothing : View T
  nothing = known false false [] [] []

  -- only the sender's pass may put, and it knows all that was put
  abbrev pub FitsSender : ℕ → List T → ℕ → View T → Type 0
  FitsSender sender put pass v = v.puts ≡ true → (pass ≡ sender) × (v.put ≡ put)

  -- Only the receiver's pass may take. It knows all that was taken, and what it saw to come is what the link holds first.
  abbrev pub FitsReceiver : ℕ → List T → List T → ℕ → View T → Type 0
  FitsReceiver receiver taken items pass v = v.takes ≡ true → (pass ≡ receiver) × (v.taken ≡ taken) × StartsWith items v.coming

  -- of what the link holds, oldest first, and of what each pass knows
  pub record InOrder (items : List T) (views : List (View T)) : Type 0 where
    pub sender : ℕ
    pub receiver : ℕ
    pub put : List T
    pub taken : List T
    pub in_order : put ≡ taken ++ items
    pub each : (pass : ℕ) (v : View T) → get_elem? views pass ≡ some v → FitsSender sender put pass v × FitsReceiver receiver taken items pass v

  -- the item stands behind all that was put before
  pub record puts (v : View T) (item : T) (w : View T) : Type 0 where
    pub may : w.puts ≡ v.puts
    pub put : w.put ≡ v.put ++ item ∷ []

  -- the item stands behind all that was taken before; it and what then comes begin with what was seen to come
  pub record takes (v : View T) (item : T) (w : View T) : Type 0 where
    pub may : w.takes ≡ v.takes
    pub taken : w.taken ≡ v.taken ++ item ∷ []
    pub coming : StartsWith (item ∷ w.coming) v.coming

  -- what was seen to come lies in the link
  abbrev pub waits : View T → List T → Type 0
  waits v items = StartsWith items v.coming

  -- what the sender put is what the receiver took, and then what the link holds
  abbrev pub compares : View T → List T → Type 0
  compares v items = (v.put ≡ v.taken ++ items) × StartsWith items v.coming

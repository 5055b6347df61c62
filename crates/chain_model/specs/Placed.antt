-- Members that were told the recorded chain or the one before it, and what these two chains have to do with each other.
use Rattle.std.specs.Prelude.{if◌then◌else◌, ◌≡◌, ◌≢◌, ℕ, suc, ◌==◌, ◌≤◌, Option, None, Some, List, [], ◌∷◌, ◌++◌, All}
use Rattle.std.specs.List.{Contains}
use Rattle.chain_model.specs.Links.{AllSuit, Net}

-- who stands before a slot in a chain, and who behind it
abbrev pub above_in : List ℕ → ℕ → Option ℕ
above_in [] y = None
above_in (x ∷ []) y = None
above_in (x ∷ z ∷ c) y = if z == y then Some x else above_in (z ∷ c) y

abbrev pub below_in : List ℕ → ℕ → Option ℕ
below_in [] x = None
below_in (z ∷ []) x = None
below_in (z ∷ y ∷ c) x = if z == x then Some y else below_in (y ∷ c) x

-- no slot stands twice
abbrev pub Apart : List ℕ → Type 0
Apart [] = Unit {0}
Apart (x ∷ xs) = All (λ y. y ≢ x) xs × Apart xs

-- the member was told one of the two chains, or an older one
pub record IsPlaced (w : Net) (old : List ℕ) (y : ℕ) : Type 0 where
  pub now : (w.nodes y).epoch ≡ w.epoch → ((w.nodes y).above ≡ above_in w.chain y) × ((w.nodes y).below ≡ below_in w.chain y)
  pub before : suc (w.nodes y).epoch ≡ w.epoch → ((w.nodes y).above ≡ above_in old y) × ((w.nodes y).below ≡ below_in old y)

-- neighbours of the old chain that are both in the new one are neighbours there
abbrev pub Close : List ℕ → List ℕ → Type 0
Close old now = (y t : ℕ) → Contains now y → Contains now t → above_in old y ≡ Some t → above_in now y ≡ Some t

abbrev pub PlacesSuit : Type 0
PlacesSuit = (w : Net) (us vs old : List ℕ) (s : ℕ) → w.chain ≡ us ++ s ∷ vs → Apart w.chain → Apart old → Close old w.chain → All (IsPlaced w old) w.chain
    → (w.nodes s).epoch ≤ w.epoch → w.epoch ≤ suc (w.nodes s).epoch → AllSuit w s None us × AllSuit w s (Some s) vs

-- so it is if one was removed, or one joined at the end
abbrev pub RecordsAreClose : Type 0
RecordsAreClose = (xs ys : List ℕ) (m : ℕ) → (Apart (xs ++ m ∷ ys) → Close (xs ++ m ∷ ys) (xs ++ ys)) × Close xs (xs ++ m ∷ [])

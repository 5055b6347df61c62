-- How what is left of requests goes on standing for the machine: what all laws share. Lemmas for the crates above.
use Rattle.std.proofs.Common.{◌≡◌, ℕ, zero, suc, false, eqb, Some, List, [], ◌∷◌, map, set, get_or, refl, sym, ap}
use Rattle.std.specs.Prelude.{All, slice_get}
use Rattle.std.proofs.lemmas.Bool.{eq-eqb}
use Rattle.std.proofs.lemmas.Option.{same_Some}
use Rattle.world_model.proofs.Counting.{contains-filter, none_passes, one_if, one_if-true}
use Rattle.world_model.specs.Event.{ClientEvent}
use Rattle.world_model.specs.Machine.{Asked, Plays, State, Waits, told}
use Rattle.world_model.specs.Requests.{Bound, Requests, StandsFor, count_asked, count_tokens}

-- what clients don't see, and the machine takes no step for
abbrev pub Stays : ℕ → Requests → Requests → Type 0
Stays backed r q = (s : State) → StandsFor backed r s → StandsFor backed q s

-- what clients see of this, at a volume of this size
abbrev pub Shows : (size backed : ℕ) → Requests → Requests → List ClientEvent → Type 0
Shows size backed r q events = Plays size (StandsFor backed r) (StandsFor backed q) events

pub shows_stay : (size backed : ℕ) (r q : Requests) → Stays backed r q → Shows size backed r q []
shows_stay size backed r q stays s stands = ([], s, refl, refl, stays s stands)

-- ---- who still waits

pub still_waits : (s : State) (x a : Asked) → eqb a.name x.name ≡ false → Waits s a → Waits (told s x) a
still_waits s x a apart (sent, waits) = (sent, contains-filter a.name x.name s.waiting waits apart)

pub all_still_wait : (s : State) (x : Asked) (l : List Asked) → count_asked x.name l ≡ 0 → All (Waits s) l → All (Waits (told s x)) l
all_still_wait s x l none waits = λ k d lt. still_waits s x (get_or l k d) (none_passes (λ a. eqb a.name x.name) l none k d lt) (waits k d lt)

pub tokens_still_wait : (s : State) (x : Asked) (l : List Bound) → count_tokens x.name l ≡ 0 → All (λ b. Waits s b.asked) l → All (λ b. Waits (told s x) b.asked) l
tokens_still_wait s x l none waits = λ k d lt. still_waits s x (get_or l k d).asked (none_passes (λ b. eqb b.asked.name x.name) l none k d lt) (waits k d lt)

pub counts_itself : (x : Asked) → one_if (λ (a : Asked). eqb a.name x.name) x ≡ 1
counts_itself x = one_if-true (λ (a : Asked). eqb a.name x.name) x (eq-eqb x.name x.name refl)

pub token_counts_itself : (b : Bound) → one_if (λ (c : Bound). eqb c.asked.name b.asked.name) b ≡ 1
token_counts_itself b = one_if-true (λ (c : Bound). eqb c.asked.name b.asked.name) b (eq-eqb b.asked.name b.asked.name refl)

-- ---- lists

pub no_map : {A B : Type 0} (f : A → B) (xs : List A) → map f xs ≡ [] → xs ≡ []
no_map f [] none = refl
no_map f (x ∷ xs) none = absurd cc

pub set_same : {A : Type 0} (xs : List A) (i : ℕ) (x : A) → slice_get xs i ≡ Some x → set xs i x ≡ xs
set_same [] i x at = refl
set_same (y ∷ ys) zero x at = ap (λ z. z ∷ ys) (sym (same_Some y x at))
set_same (y ∷ ys) (suc i) x at = ap (λ l. y ∷ l) (set_same ys i x at)

pub set_twice : {A : Type 0} (xs : List A) (i : ℕ) (x y : A) → set (set xs i x) i y ≡ set xs i y
set_twice [] i x y = refl
set_twice (z ∷ zs) zero x y = refl
set_twice (z ∷ zs) (suc i) x y = ap (λ l. z ∷ l) (set_twice zs i x y)

pub get_set : {A : Type 0} (xs : List A) (i : ℕ) (x y : A) → slice_get xs i ≡ Some x → slice_get (set xs i y) i ≡ Some y
get_set [] i x y at = absurd cc
get_set (z ∷ zs) zero x y at = refl
get_set (z ∷ zs) (suc i) x y at = get_set zs i x y at

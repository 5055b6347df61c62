-- What is known of lists, one item after the other.
use Rattle.std.proofs.Common.{◌≡◌, ℕ, zero, suc, List, [], ◌∷◌, ◌++◌, Option, None, Some, IfSome, length, map, arith, ap, sym, subst, ◌∙◌, refl, append_assoc, append-nil}
use Rattle.std.specs.Prelude.{IsNone, IsSome, slice_get}
use Rattle.std.specs.List.{AllZip, remove}
use Rattle.std.proofs.lemmas.List.{map-append}
use Rattle.local_store.specs.About.{About}
use Rattle.local_store.specs.Refusal.{IsCaused}
use Rattle.folder.specs.Found.{IsFault, IsFound}
use Rattle.folder.specs.Refusal.{IsOfFinding}
use Rattle.folder.specs.declared.found.Fault.{Fault}
use Rattle.folder.specs.declared.found.OnDisk.{OnDisk}
use Rattle.folder.specs.declared.refusal.Refusal.TheVariants.{Store}

-- one item more on both sides
pub all_zip-more : {A B : Type 0} (R : A → B → Type 0) (xs : List A) (ys : List B) (x : A) (y : B) → AllZip R xs ys → R x y → AllZip R (xs ++ x ∷ []) (ys ++ y ∷ [])
all_zip-more R [] [] x y all fits = (fits, tt)
all_zip-more R [] (y' ∷ ys) x y all fits = absurd all
all_zip-more R (x' ∷ xs) [] x y all fits = absurd all
all_zip-more R (x' ∷ xs) (y' ∷ ys) x y all fits = (all.0, all_zip-more R xs ys x y all.1 fits)

-- what was yielded, when the next item was
pub one_behind : {A : Type 0} (xs rest rest' all : List A) (x : A) → xs ++ rest ≡ all → rest ≡ x ∷ rest' → (xs ++ x ∷ []) ++ rest' ≡ all
one_behind xs rest rest' all x whole is = append_assoc xs (x ∷ []) rest' ∙ ap (λ l. xs ++ l) (sym is) ∙ whole

-- no item is left
pub none_left : {A : Type 0} (l : List A) → length l ≡ 0 → l ≡ []
none_left [] none = refl
none_left (x ∷ l) none = absurd (omega arith)

-- where it stands
pub stands_at : {A : Type 0} (xs rest : List A) (x : A) → slice_get (xs ++ x ∷ rest) (length xs) ≡ Some x
stands_at [] rest x = refl
stands_at (y ∷ xs) rest x = stands_at xs rest x

-- and it goes on to stand there
pub stands_still : {A : Type 0} (xs ys : List A) (k : ℕ) (x : A) → slice_get xs k ≡ Some x → slice_get (xs ++ ys) k ≡ Some x
stands_still [] ys k x is = let no : None ≡ Some x = is in cc
stands_still (y ∷ xs) ys zero x is = is
stands_still (y ∷ xs) ys (suc k) x is = stands_still xs ys k x is

-- all were yielded
pub all_yielded : {D : Type 0} (yielded rest all : List D) → yielded ++ rest ≡ all → rest ≡ [] → yielded ≡ all
all_yielded yielded rest all whole none = sym (append-nil yielded) ∙ ap (λ l. yielded ++ l) (sym none) ∙ whole

-- a list and itself
pub all_zip_same : {A : Type 0} (R : A → A → Type 0) (xs : List A) → ((x : A) → R x x) → AllZip R xs xs
all_zip_same R [] same = tt
all_zip_same R (x ∷ xs) same = (same x, all_zip_same R xs same)

-- the items of one list taken from others
pub all_zip_mapped : {A B C : Type 0} (R : A → C → Type 0) (f : B → C) (xs : List A) (ys : List B) → AllZip (λ x y. R x (f y)) xs ys → AllZip R xs (map f ys)
all_zip_mapped R f [] [] all = tt
all_zip_mapped R f [] (y ∷ ys) all = absurd all
all_zip_mapped R f (x ∷ xs) [] all = absurd all
all_zip_mapped R f (x ∷ xs) (y ∷ ys) all = (all.0, all_zip_mapped R f xs ys all.1)

-- one place less on both sides
pub all_zip_removed : {A B : Type 0} (R : A → B → Type 0) (xs : List A) (ys : List B) (k : ℕ) → AllZip R xs ys → AllZip R (remove xs k) (remove ys k)
all_zip_removed R [] [] zero all = tt
all_zip_removed R [] [] (suc k) all = tt
all_zip_removed R [] (y ∷ ys) k all = absurd all
all_zip_removed R (x ∷ xs) [] k all = absurd all
all_zip_removed R (x ∷ xs) (y ∷ ys) zero all = all.1
all_zip_removed R (x ∷ xs) (y ∷ ys) (suc k) all = (all.0, all_zip_removed R xs ys k all.1)

-- one disk more that was found
pub all_found-more : {D S E : Type 0} (about : S → About) (keeps : S → List ℕ → Type 0) (gives : D → List ℕ) (yielded : List D) (found : List (OnDisk S E)) (disk : D) (one : OnDisk S E)
    → AllZip (IsFound about keeps) (map gives yielded) found → IsFound about keeps (gives disk) one → AllZip (IsFound about keeps) (map gives (yielded ++ disk ∷ [])) (found ++ one ∷ [])
all_found-more about keeps gives yielded found disk one all fits =
    subst (λ (l : List (List ℕ)). AllZip (IsFound about keeps) l (found ++ one ∷ [])) (sym (map-append gives yielded (disk ∷ []))) (all_zip-more (IsFound about keeps) (map gives yielded) found (gives disk) one all fits)

-- the first disk at fault
abbrev pub IsFaulty : {D : Type 0} → (D → ℕ) → List D → List D → Fault → Type 0
IsFaulty failures disks back f = IsOfFinding (Store f.refusal) × IsFault failures disks back f.place (Store f.refusal)

-- when one disk more was looked at, or left alone
pub faulty-more : {D : Type 0} (failures : D → ℕ) (disks back : List D) (disk now : D) (old new : Option Fault) (place : ℕ) → place ≡ length disks → place ≡ length back → IfSome old (IsFaulty failures disks back)
    → (IsSome old → new ≡ old) → (IsNone old → IfSome new (λ f. IsOfFinding (Store f.refusal))) → (IsNone old → IfSome new (λ f. f.place ≡ place)) → (IsNone old → IfSome new (λ f. IsCaused (failures disk) (failures now) f.refusal))
    → IfSome new (IsFaulty failures (disks ++ disk ∷ []) (back ++ now ∷ []))
faulty-more failures disks back disk now (Some f) new place at back_at was kept told there cause =
    subst (λ (o : Option Fault). IfSome o (IsFaulty failures (disks ++ disk ∷ []) (back ++ now ∷ []))) (sym (kept refl)) (
      was.0,
      record {
        old = was.1.old;
        new = was.1.new;
        was = stands_still disks (disk ∷ []) f.place was.1.old was.1.was;
        is = stands_still back (now ∷ []) f.place was.1.new was.1.is;
        cause = was.1.cause;
      },
    )
faulty-more failures disks back disk now None None place at back_at was kept told there cause = tt
faulty-more failures disks back disk now None (Some f) place at back_at was kept told there cause = (
  told refl,
  record {
    old = disk;
    new = now;
    was = subst (λ (n : ℕ). slice_get (disks ++ disk ∷ []) n ≡ Some disk) (sym (there refl ∙ at)) (stands_at disks [] disk);
    is = subst (λ (n : ℕ). slice_get (back ++ now ∷ []) n ≡ Some now) (sym (there refl ∙ back_at)) (stands_at back [] now);
    cause = cause refl;
  },
)

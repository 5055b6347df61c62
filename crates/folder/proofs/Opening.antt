-- What came of opening files, one more after the other.
use Rattle.std.proofs.Common.{◌≡◌, ℕ, ◌+◌, ◌≤◌, List, [], ◌∷◌, ◌++◌, Result, Ok, Err, All, IfErr, IfSome, ◌⊎◌, inl, inr, length, append-nil, arith, ap, subst, sym, ◌∙◌, refl, zero, suc}
use Rattle.std.specs.Prelude.{IsErrAnd, None, Some, slice_get}
use Rattle.folder.specs.Files.{AreAscendingFrom, AreOpenings, IsFailureAmong, IsNotFound, OthersAreAbsent, disks_there, slots_there}
use Rattle.folder.specs.Refusal.{IsOfFiles}
use Rattle.folder.specs.declared.failure.Failure.{Failure}
use Rattle.folder.specs.declared.names.FileName.TheVariants.{Slot}
use Rattle.folder.specs.declared.refusal.Refusal.TheVariants.{Memory}
use Rattle.folder.proofs.Finding.{stands_at}

-- of one file more
pub openings-more : {D : Type 0} (first : ℕ) (before : List (Result D Failure)) (one : Result D Failure) → AreOpenings first before → IfErr one (λ failure. (failure.file ≡ Slot (first + length before)) × IsOfFiles failure.refusal) → AreOpenings first (before ++ one ∷ [])
openings-more first [] one are is = (subst (λ (n : ℕ). IfErr one (λ failure. (failure.file ≡ Slot n) × IsOfFiles failure.refusal)) (omega arith) is, tt)
openings-more first (x ∷ before) one are is = (are.0, openings-more (first + 1) before one are.1 (subst (λ (n : ℕ). IfErr one (λ failure. (failure.file ≡ Slot n) × IsOfFiles failure.refusal)) (omega arith) is))

-- what came of the file of a slot
pub opening_is : {D : Type 0} (opened : Result D Failure) (slot n : ℕ) → IfErr opened (λ failure. failure.file ≡ Slot slot) → IfErr opened (λ failure. IsOfFiles failure.refusal) → slot ≡ n → IfErr opened (λ failure. (failure.file ≡ Slot n) × IsOfFiles failure.refusal)
opening_is (Ok disk) slot n file told same = tt
opening_is (Err failure) slot n file told same = (file ∙ ap (λ (k : ℕ). Slot k) same, told)

-- those behind others
pub disks_there-append : {D : Type 0} (xs ys : List (Result D Failure)) → disks_there (xs ++ ys) ≡ disks_there xs ++ disks_there ys
disks_there-append [] ys = refl
disks_there-append (Ok disk ∷ xs) ys = ap (λ l. disk ∷ l) (disks_there-append xs ys)
disks_there-append (Err failure ∷ xs) ys = disks_there-append xs ys

pub slots_there-append : {D : Type 0} (first : ℕ) (xs ys : List (Result D Failure)) → slots_there first (xs ++ ys) ≡ slots_there first xs ++ slots_there (first + length xs) ys
slots_there-append first [] ys = ap (λ (n : ℕ). slots_there n ys) (omega arith)
slots_there-append first (Ok disk ∷ xs) ys = ap (λ (l : List ℕ). first ∷ l) (slots_there-append (first + 1) xs ys ∙ ap (λ (n : ℕ). slots_there (first + 1) xs ++ slots_there n ys) (omega arith))
slots_there-append first (Err failure ∷ xs) ys = slots_there-append (first + 1) xs ys ∙ ap (λ (n : ℕ). slots_there (first + 1) xs ++ slots_there n ys) (omega arith)

-- what is told of the file at a place
pub told_at : {D : Type 0} (first : ℕ) (openings : List (Result D Failure)) (place : ℕ) (failure : Failure) → AreOpenings first openings → slice_get openings place ≡ Some (Err failure) → IsOfFiles failure.refusal
told_at {D} first [] place failure are there = let no : None ≡ Some (Err failure) = there in cc
told_at {D} first (one ∷ rest) zero failure are there =
    let is : one ≡ Err failure = cc in
    (subst (λ (r : Result D Failure). IfErr r (λ failure. (failure.file ≡ Slot first) × IsOfFiles failure.refusal)) is are.0).1
told_at {D} first (one ∷ rest) (suc place) failure are there = told_at (first + 1) rest place failure are.1 there

-- a failure among those of the files
pub failed_among : {D : Type 0} (openings yielded rest : List (Result D Failure)) (opened : Result D Failure) (failure : Failure) → yielded ++ opened ∷ rest ≡ openings → (failure.refusal ≡ Memory) ⊎ ((opened ≡ Err failure) × ¬ IsNotFound failure)
    → (failure.refusal ≡ Memory) ⊎ IsFailureAmong openings failure
failed_among openings yielded rest opened failure whole (inl memory) = inl memory
failed_among {D} openings yielded rest opened failure whole (inr is) =
    inr (record {
      slot = length yielded;
      there = subst (λ (l : List (Result D Failure)). slice_get l (length yielded) ≡ Some (Err failure)) whole (stands_at yielded rest opened ∙ ap (λ (r : Result D Failure). Some r) is.0);
      other = is.1;
    })

pub told_among : {D : Type 0} (openings : List (Result D Failure)) (failure : Failure) → AreOpenings 0 openings → (failure.refusal ≡ Memory) ⊎ IsFailureAmong openings failure → IsOfFiles failure.refusal
told_among openings failure are (inl memory) = subst IsOfFiles (sym memory) tt
told_among openings failure are (inr is) = told_at 0 openings is.slot failure are is.there

-- an error that was passed on
pub passed_on : {T E : Type 0} (result : Result T E) (e : E) (P : E → Type 0) → IsErrAnd result (λ y. y ≡ e) → P e → IfErr result P
passed_on (Ok t) e P is so = tt
passed_on (Err y) e P is so = subst P (sym is) so

-- the slots of those that are there ascend
ascending-from : (least more : ℕ) (slots : List ℕ) → least ≤ more → AreAscendingFrom more slots → AreAscendingFrom least slots
ascending-from least more [] below are = tt
ascending-from least more (slot ∷ rest) below are = (omega (arith, are.0), are.1)

pub slots_ascend : {D : Type 0} (first : ℕ) (openings : List (Result D Failure)) → AreAscendingFrom first (slots_there first openings)
slots_ascend first [] = tt
slots_ascend first (Ok disk ∷ rest) = (omega arith, slots_ascend (first + 1) rest)
slots_ascend first (Err failure ∷ rest) = ascending-from first (first + 1) (slots_there (first + 1) rest) (omega arith) (slots_ascend (first + 1) rest)

-- as many disks as slots
pub as_many_there : {D : Type 0} (first : ℕ) (openings : List (Result D Failure)) → length (slots_there first openings) ≡ length (disks_there openings)
as_many_there first [] = refl
as_many_there first (Ok disk ∷ rest) = ap (λ (n : ℕ). suc n) (as_many_there (first + 1) rest)
as_many_there first (Err failure ∷ rest) = as_many_there (first + 1) rest

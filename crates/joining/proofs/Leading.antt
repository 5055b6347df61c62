-- What is so of a copying's disk as it goes on.
use Rattle.std.proofs.Common.{◌≡◌, ℕ, refl, subst, sym}
use Rattle.std.specs.Prelude.{IfSome, IsSomeAnd, None, Option, Some}
use Rattle.local_store.specs.Refusal.{IsCaused}
use Rattle.local_store.specs.declared.refusal.Refusal.{Refusal}
use Rattle.rejoin_catchup.specs.Receiving.{disk_of}
use Rattle.joining.specs.Copying.{LeadsOn, Seen}

-- one of which this holds
pub one_with : {A : Type 0} (P : A → Type 0) (o : Option A) → IsSomeAnd o P → (a : A) × (o ≡ Some a) × P a
one_with P None holds = absurd holds
one_with P (Some a) holds = (a, refl, holds)

-- what holds of one that is there, and so of any
pub so_if : {A : Type 0} (P Q : A → Type 0) (o : Option A) → IsSomeAnd o P → ((a : A) → P a → Q a) → IfSome o Q
so_if P Q None holds all = absurd holds
so_if P Q (Some a) holds all = all a holds

module _ {D : Type 0} (f : D → ℕ) where
  -- nothing happens
  pub leads_still : (c : Seen D) → LeadsOn (λ was now. f now ≡ f was) c c
  leads_still c was here = subst (λ o. IsSomeAnd o (λ now. f now ≡ f was)) (sym here) refl

  -- what a number of the disk tells at first, it tells still
  pub leads_from : (P : ℕ → D → Type 0) (first old new : Seen D) → LeadsOn (λ was now. f now ≡ f was) first old → LeadsOn (λ was now. P (f was) now) old new → LeadsOn (λ was now. P (f was) now) first new
  leads_from P first old new stays then was here =
      let (mid, there, same) = one_with (λ now. f now ≡ f was) (disk_of old.receiver) (stays was here) in
      subst (λ (n : ℕ). IsSomeAnd (disk_of new.receiver) (P n)) same (then mid there)

  -- from the disk with which a copying began
  module _ (disk : D) (old new : Seen D) (began : IsSomeAnd (disk_of old.receiver) (λ now. f now ≡ f disk)) where
    pub led : (P : ℕ → D → Type 0) → LeadsOn (λ was now. P (f was) now) old new → IsSomeAnd (disk_of new.receiver) (P (f disk))
    led P then =
        let (was, here, same) = one_with (λ now. f now ≡ f disk) (disk_of old.receiver) began in
        subst (λ (n : ℕ). IsSomeAnd (disk_of new.receiver) (P n)) same (then was here)

-- what is said if there is a disk is said of the one that is there
pub with_there : {A : Type 0} (P Q : A → Type 0) (o : Option A) → IfSome o P → IsSomeAnd o Q → IsSomeAnd o P
with_there P Q None holds there = absurd there
with_there P Q (Some a) holds there = holds

-- the refusal of a disk is caused, since it began with so many failures
pub caused_by : {D : Type 0} (f : D → ℕ) (disk given : D) (r : Refusal) (o : Option D) → IsSomeAnd o (λ now. f now ≡ f disk) → IfSome o (λ was. IsCaused (f was) (f given) r) → IsCaused (f disk) (f given) r
caused_by f disk given r None began caused = absurd began
caused_by f disk given r (Some was) began caused = subst (λ (n : ℕ). IsCaused n (f given) r) began caused

-- A copy of the machine's volume stays one, whatever is taken behind it: lemmas.
use Rattle.std.proofs.Common.{◌≡◌, ◌∙◌, ap, sym, subst, ℕ, List, length, arith}
use Rattle.local_store.specs.About.{About}
use Rattle.chain_model.proofs.JoiningSteps.{volume_grows}
use Rattle.joining.specs.Copying.{IsCopyOf, Seen}
use Rattle.world_model.specs.Machine.{Move, RunsOn, State}
use Rattle.candidate.specs.Copies.{HasCopy, IsCopied, IsCopying}
use Rattle.candidate.specs.declared.candidate.Candidate.{Candidate}
use Rattle.candidate.specs.declared.candidate.Candidate.TheVariants.{Nobody, Copying, Whole, Counted, Refused}

module _ {S D : Type 0} (gives : D → List ℕ) (leaves : D → List ℕ → Type 0) (about : S → About) (keeps : S → List ℕ → Type 0) (size : ℕ) (s t : State) (moves : List Move) (run : RunsOn s moves t) (incarnation : ℕ) where
  copying_stays : (c : Seen D) → IsCopying gives leaves about keeps size s incarnation c → IsCopying gives leaves about keeps size t incarnation c
  copying_stays c is =
      let (same, more) = volume_grows size s t moves c.front run is.taken in
      record {
        sb = is.sb;
        its = is.its;
        blocks = is.blocks;
        taken = omega (arith, is.taken, more);
        long = ap (λ (l : List ℕ). length l) same ∙ is.long;
        copy = subst (λ (volume : List ℕ). IsCopyOf gives leaves is.sb volume c) (sym same) is.copy;
      }

  copied_stays : (store : S) → IsCopied gives leaves about keeps size s incarnation store → IsCopied gives leaves about keeps size t incarnation store
  copied_stays store is =
      let (same, more) = volume_grows size s t moves (about store).front run is.taken in
      record { its = is.its; taken = omega (arith, is.taken, more); keeping = subst (keeps store) (sym same) is.keeping }

  pub copy_stays : (x : Candidate S D) → HasCopy gives leaves about keeps size s incarnation x → HasCopy gives leaves about keeps size t incarnation x
  copy_stays Nobody has = tt
  copy_stays (Copying c) has = λ runs. copying_stays c (has runs)
  copy_stays (Whole w) has = copied_stays w.store has
  copy_stays Counted has = tt
  copy_stays (Refused r) has = tt

  -- and of another candidate that is the same
  pub stays_as : (old new : Candidate S D) → new ≡ old → HasCopy gives leaves about keeps size s incarnation old → HasCopy gives leaves about keeps size t incarnation new
  stays_as old new same had = subst (HasCopy gives leaves about keeps size t incarnation) (sym same) (copy_stays old had)

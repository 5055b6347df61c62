-- The copy that a disk on its way has, from call to call: lemmas.
use Rattle.std.proofs.Common.{◌≡◌, ℕ, suc, Bool, true, false, List, refl, ap, sym, subst}
use Rattle.std.specs.Prelude.{Err, Ok, Result}
use Rattle.candidate.specs.Orders.{Attaches}
use Rattle.local_store.specs.declared.refusal.Refusal as store
use Rattle.world.specs.Management.{Managing}
use Rattle.candidate.specs.Copies.{HasCopy, IsOfOneVolumeCopied, KeepsCopy}
use Rattle.candidate.specs.declared.candidate.Candidate.{Candidate}
use Rattle.candidate.specs.declared.candidate.Candidate.TheVariants.{Nobody}
use Rattle.candidate.proofs.Copied.{stays_as}
use Rattle.clients.specs.Clients.{no_one}
use Rattle.chain.specs.Chain.{bytes_of}
use Rattle.chain_model.specs.Chain.{StandsFor}
use Rattle.chain_model.specs.View.{View}
use Rattle.disk_model.specs.Memory.{given_of, may_be_left}
use Rattle.disk_model.specs.declared.memory.MemDisk.{MemDisk}
use Rattle.flush_barrier.specs.declared.session_id.SessionId.{SessionId}
use Rattle.local_store.specs.About.{About}
use Rattle.world.specs.World.{HappensSo, IsOfOneVolume, Seen, Shows}
use Rattle.world_model.specs.Machine.{Move, RunsOn, State}
use Rattle.life.specs.Lived.{HasCopyIn, IsOfOneVolumeIn, KeepsCopyIn}
use Rattle.life.specs.Managed.{Managed}
use Rattle.life.proofs.Answering.{still}

module _ {S : Type 0} (about : S → About) (keeps : S → List ℕ → Type 0) (may_leave_now : S → List ℕ → Type 0) where
  -- ---- what can happen

  -- what can happen anyhow
  pub anyhow : (fed handed : SessionId → List ℕ) (old new : Managed S) → IsOfOneVolume about keeps may_leave_now fed handed old.world new.world → IsOfOneVolumeIn about keeps may_leave_now fed handed old new
  anyhow fed handed old new one v s shows stands copy = one v s shows stands

  -- what can happen where the disk had a copy
  pub where_copied : (fed handed : SessionId → List ℕ) (old new : Managed S)
      → ((incarnation : ℕ) → IsOfOneVolumeCopied given_of may_be_left about keeps may_leave_now fed handed incarnation old.candidate old.world new.world) → IsOfOneVolumeIn about keeps may_leave_now fed handed old new
  where_copied fed handed old new one v s shows stands (incarnation, copy) = one incarnation v s shows stands copy

  -- nothing happened, and nobody was told anything
  pub nothing_happens : (handed : SessionId → List ℕ) (old new : Managed S) → new.world ≡ old.world → handed ≡ no_one → IsOfOneVolumeIn about keeps may_leave_now no_one handed old new
  nothing_happens handed old new same none v s shows stands copy =
      subst (λ w. HappensSo about keeps may_leave_now old.world w no_one handed v) (sym same)
      (subst (λ h. HappensSo about keeps may_leave_now old.world old.world no_one h v) (sym none) (still about keeps may_leave_now old.world v s shows stands))

  pub told_nothing : (fed handed : SessionId → List ℕ) (old new : Managed S) → handed ≡ no_one → IsOfOneVolumeIn about keeps may_leave_now fed no_one old new → IsOfOneVolumeIn about keeps may_leave_now fed handed old new
  told_nothing fed handed old new none one v s shows stands copy = subst (λ h. HappensSo about keeps may_leave_now old.world new.world fed h v) (sym none) (one v s shows stands copy)

  pub one_volume_noted : (fed handed : SessionId → List ℕ) (old mid new : Managed S) → new.world ≡ mid.world → IsOfOneVolumeIn about keeps may_leave_now fed handed old mid → IsOfOneVolumeIn about keeps may_leave_now fed handed old new
  one_volume_noted fed handed old mid new same one v s shows stands copy = subst (λ w. HappensSo about keeps may_leave_now old.world w fed handed v) (sym same) (one v s shows stands copy)

  -- ---- the copy

  -- the disk is the same
  pub same_copy : (old new : Managed S) → new.candidate ≡ old.candidate → KeepsCopyIn about keeps may_leave_now old new
  same_copy old new same v w s t moves shows stands runs shows_then stands_then (incarnation, copy) =
      (incarnation, stays_as given_of may_be_left about keeps (bytes_of old.world.chain) s t moves runs incarnation old.candidate new.candidate same copy)

  -- none is on its way any more
  pub no_copy : (old new : Managed S) → new.candidate ≡ Nobody → KeepsCopyIn about keeps may_leave_now old new
  no_copy old new none v w s t moves shows stands runs shows_then stands_then copy =
      (0, subst (HasCopy given_of may_be_left about keeps (bytes_of old.world.chain) t 0) (sym none) tt)

  -- of whichever incarnation
  pub kept_copy : (old new : Managed S) → ((incarnation : ℕ) → KeepsCopy given_of may_be_left about keeps may_leave_now incarnation old.candidate new.candidate old.world new.world) → KeepsCopyIn about keeps may_leave_now old new
  kept_copy old new keep v w s t moves shows stands runs shows_then stands_then (incarnation, copy) = (incarnation, keep incarnation v w s t moves shows stands runs shows_then stands_then copy)

  -- and then it is noted
  pub noted_keeps : (old mid new : Managed S) → new.world ≡ mid.world → bytes_of mid.world.chain ≡ bytes_of old.world.chain → KeepsCopyIn about keeps may_leave_now old mid
      → ((v : View) (s : State) → Shows about keeps may_leave_now mid.world v → StandsFor (bytes_of mid.world.chain) v s → HasCopyIn about keeps (bytes_of mid.world.chain) s mid → HasCopyIn about keeps (bytes_of mid.world.chain) s new)
      → KeepsCopyIn about keeps may_leave_now old new
  noted_keeps old mid new same sizes keep note v w s t moves shows stands runs shows_then stands_then copy =
      let shown = subst (λ x. Shows about keeps may_leave_now x w) same shows_then in
      let was = keep v w s t moves shows stands runs shown stands_then copy in
      subst (λ n. HasCopyIn about keeps n t new) sizes (note w t shown (subst (λ n. StandsFor n w t) (sym sizes) stands_then) (subst (λ n. HasCopyIn about keeps n t mid) (sym sizes) was))

  -- ---- a managed world that was taken apart

  pub apart_anyhow : (fed handed : SessionId → List ℕ) (apart old : Managed S) (world : Seen S) → apart ≡ old → IsOfOneVolume about keeps may_leave_now fed handed apart.world world
      → (v : View) (s : State) → Shows about keeps may_leave_now old.world v → StandsFor (bytes_of old.world.chain) v s → HasCopyIn about keeps (bytes_of old.world.chain) s old → HappensSo about keeps may_leave_now old.world world fed handed v
  apart_anyhow fed handed apart old world is one v s shows stands copy = subst (λ (m : Managed S). IsOfOneVolume about keeps may_leave_now fed handed m.world world) is one v s shows stands

  pub apart_copied : (fed handed : SessionId → List ℕ) (apart old : Managed S) (world : Seen S) → apart ≡ old
      → ((incarnation : ℕ) → IsOfOneVolumeCopied given_of may_be_left about keeps may_leave_now fed handed incarnation apart.candidate apart.world world)
      → (v : View) (s : State) → Shows about keeps may_leave_now old.world v → StandsFor (bytes_of old.world.chain) v s → HasCopyIn about keeps (bytes_of old.world.chain) s old → HappensSo about keeps may_leave_now old.world world fed handed v
  apart_copied fed handed apart old world is one v s shows stands (incarnation, copy) =
      subst (λ (m : Managed S). IsOfOneVolumeCopied given_of may_be_left about keeps may_leave_now fed handed incarnation m.candidate m.world world) is (one incarnation) v s shows stands copy

  -- what becomes of the copy
  abbrev pub Keeps : Managed S → Seen S → Candidate S MemDisk → Type 0
  Keeps old world candidate =
      (v w : View) (s t : State) (moves : List Move) → Shows about keeps may_leave_now old.world v → StandsFor (bytes_of old.world.chain) v s → RunsOn s moves t
      → Shows about keeps may_leave_now world w → StandsFor (bytes_of old.world.chain) w t → HasCopyIn about keeps (bytes_of old.world.chain) s old
      → (incarnation : ℕ) × HasCopy given_of may_be_left about keeps (bytes_of old.world.chain) t incarnation candidate

  pub apart_kept : (apart old : Managed S) (world : Seen S) (candidate : Candidate S MemDisk) → apart ≡ old
      → ((incarnation : ℕ) → KeepsCopy given_of may_be_left about keeps may_leave_now incarnation apart.candidate candidate apart.world world) → Keeps old world candidate
  apart_kept apart old world candidate is keep v w s t moves shows stands runs shows_then stands_then (incarnation, copy) =
      (incarnation, subst (λ (m : Managed S). KeepsCopy given_of may_be_left about keeps may_leave_now incarnation m.candidate candidate m.world world) is (keep incarnation) v w s t moves shows stands runs shows_then stands_then copy)

  pub apart_same : (apart old : Managed S) (world : Seen S) → apart ≡ old → Keeps old world apart.candidate
  apart_same apart old world is v w s t moves shows stands runs shows_then stands_then (incarnation, copy) =
      (incarnation, stays_as given_of may_be_left about keeps (bytes_of old.world.chain) s t moves runs incarnation old.candidate apart.candidate (ap (λ (m : Managed S). m.candidate) is) copy)

  pub gone : (old : Managed S) (world : Seen S) (candidate : Candidate S MemDisk) → candidate ≡ Nobody → Keeps old world candidate
  gone old world candidate none v w s t moves shows stands runs shows_then stands_then copy = (0, subst (HasCopy given_of may_be_left about keeps (bytes_of old.world.chain) t 0) (sym none) tt)

  -- what is noted of a copy of each incarnation is noted of the one that there is
  pub apart_noted : (apart old : Managed S) (candidate : Candidate S MemDisk) → apart ≡ old → ((incarnation : ℕ) (v : View) (s : State) → Shows about keeps may_leave_now apart.world v → StandsFor (bytes_of apart.world.chain) v s
      → HasCopy given_of may_be_left about keeps (bytes_of apart.world.chain) s incarnation apart.candidate → HasCopy given_of may_be_left about keeps (bytes_of apart.world.chain) s incarnation candidate)
      → (v : View) (s : State) → Shows about keeps may_leave_now old.world v → StandsFor (bytes_of old.world.chain) v s → HasCopyIn about keeps (bytes_of old.world.chain) s old
      → (incarnation : ℕ) × HasCopy given_of may_be_left about keeps (bytes_of old.world.chain) s incarnation candidate
  apart_noted apart old candidate is note v s shows stands (incarnation, copy) = (
    incarnation,
    subst (λ (m : Managed S). Shows about keeps may_leave_now m.world v → StandsFor (bytes_of m.world.chain) v s → HasCopy given_of may_be_left about keeps (bytes_of m.world.chain) s incarnation m.candidate
        → HasCopy given_of may_be_left about keeps (bytes_of m.world.chain) s incarnation candidate) is (note incarnation v s) shows stands copy,
  )

  -- a disk was attached, or not
  attached_so : (given : Result Bool store.Refusal) (old : Managed S) (m n : Managing MemDisk) (candidate : Candidate S MemDisk) → Attaches given old.candidate candidate m n old.world
      → ((v : View) (s : State) → Shows about keeps may_leave_now old.world v → StandsFor (bytes_of old.world.chain) v s → HasCopy given_of may_be_left about keeps (bytes_of old.world.chain) s (suc old.world.chain.recorded.epoch) old.candidate
      → HasCopy given_of may_be_left about keeps (bytes_of old.world.chain) s (suc old.world.chain.recorded.epoch) candidate) → Keeps old old.world candidate
  attached_so (Ok true) old m n candidate did copies v w s t moves shows stands runs shows_then stands_then copy =
      let (c, slot, was, now, due, tail, done) = did.attached refl in
      let next = suc old.world.chain.recorded.epoch in
      (next, copies w t shows_then stands_then (subst (HasCopy given_of may_be_left about keeps (bytes_of old.world.chain) t next) (sym was) tt))
  attached_so (Ok false) old m n candidate did copies v w s t moves shows stands runs shows_then stands_then (incarnation, copy) =
      (incarnation, stays_as given_of may_be_left about keeps (bytes_of old.world.chain) s t moves runs incarnation old.candidate candidate (did.idle refl).1 copy)
  attached_so (Err refusal) old m n candidate did copies v w s t moves shows stands runs shows_then stands_then copy =
      let (told, r, slot, was, now, order, same) = did.refused in
      (0, subst (HasCopy given_of may_be_left about keeps (bytes_of old.world.chain) t 0) (sym now) tt)

  pub apart_attached : (given : Result Bool store.Refusal) (apart old : Managed S) (m n : Managing MemDisk) (candidate : Candidate S MemDisk) → apart ≡ old → Attaches given apart.candidate candidate m n apart.world
      → ((v : View) (s : State) → Shows about keeps may_leave_now apart.world v → StandsFor (bytes_of apart.world.chain) v s → HasCopy given_of may_be_left about keeps (bytes_of apart.world.chain) s (suc apart.world.chain.recorded.epoch) apart.candidate
      → HasCopy given_of may_be_left about keeps (bytes_of apart.world.chain) s (suc apart.world.chain.recorded.epoch) candidate) → Keeps old apart.world candidate
  apart_attached given apart old m n candidate is did copies = subst (λ (x : Managed S). Keeps x apart.world candidate) is (attached_so given apart m n candidate did copies)

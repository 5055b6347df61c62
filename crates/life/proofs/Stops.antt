-- A device call that met its stop: lemmas.
use Rattle.std.proofs.Common.{◌≡◌, ℕ, zero, suc, ◌+◌, ◌<◌, ◌≤◌, true, false, Some, List, [], ◌∷◌, length, map, refl, ap, ⊎_elim, inl, inr, sym, subst, ◌∙◌, arith}
use Rattle.std.specs.Prelude.{All, IfSome, option_map, slice_get}
use Rattle.std.proofs.lemmas.Bool.{cases_lt}
use Rattle.std.proofs.lemmas.List.{length-map}
use Rattle.std.proofs.lemmas.Option.{get_or_from_slice_get, same_Some, slice_get-map, slice_get_within}
use Rattle.candidate.specs.Orders.{Notes}
use Rattle.candidate.specs.declared.candidate.Candidate.{Candidate}
use Rattle.candidate.specs.declared.candidate.Candidate.TheVariants.{Copying, Counted, Nobody, Refused, Whole}
use Rattle.chain.specs.Chain.{Chained}
use Rattle.chain.specs.Member.{Linked}
use Rattle.disk_model.specs.Memory.{has_stopped}
use Rattle.disk_model.specs.declared.memory.MemDisk.{MemDisk}
use Rattle.flush_barrier.specs.declared.session_id.SessionId.{SessionId}
use Rattle.local_store.specs.About.{About}
use Rattle.world.specs.World.{Seen}
use Rattle.life.specs.Begun.{AllGo, stores_of}
use Rattle.life.specs.Does.{DoesDeed}
use Rattle.life.specs.Managed.{Managed}
use Rattle.life.specs.Played.{fed_by}
use Rattle.life.specs.Plays.{HasMetStop, MemberMetStop, RefusedByStop}
use Rattle.life.specs.declared.answer.Answer.{Answer}
use Rattle.life.specs.declared.era.Deed.{Deed}
use Rattle.life.specs.declared.era.Deed.TheVariants as deeds
use Rattle.life.specs.declared.step.Step.TheVariants.{Connect, Bytes, End, HandOut, Member}
use Rattle.life.proofs.Owners.{takes_in}

pub there_at : {A : Type 0} (xs : List A) (at : ℕ) → at < length xs → (x : A) × (slice_get xs at ≡ Some x)
there_at [] at within = absurd (omega (arith, within))
there_at (x ∷ xs) zero within = (x, refl)
there_at (x ∷ xs) (suc at) within = there_at xs at (omega (arith, within))

module _ {S : Type 0} (disk : S → MemDisk) (w : Seen S) where
  store_at : (at : ℕ) (s : S) → at < length w.chain.members → IfSome (slice_get w.chain.members at) (λ m. s ≡ m.node.store) → slice_get (stores_of w) at ≡ Some s
  store_at at s within is =
      let (m, here) = there_at w.chain.members at within in
      let same : s ≡ m.node.store = subst (λ o. IfSome o (λ n. s ≡ n.node.store)) here is in
      slice_get-map (λ (m : Linked S). m.node.store) w.chain.members at ∙ ap (option_map (λ (m : Linked S). m.node.store)) here ∙ ap Some (sym same)

  -- a stop was met where the disk says so
  pub met_at : (at : ℕ) (s : S) → at < length w.chain.members → IfSome (slice_get w.chain.members at) (λ m. s ≡ m.node.store) → has_stopped (disk s) ≡ true → MemberMetStop disk w
  met_at at s within is stopped = record { at = at; store = s; here = store_at at s within is; stopped = stopped }

  -- none was met by so many members' disks
  abbrev pub NoneBefore : ℕ → Type 0
  NoneBefore at = (k : ℕ) (s : S) → k < at → slice_get (stores_of w) k ≡ Some s → has_stopped (disk s) ≡ false

  pub none_more : (at : ℕ) (s : S) → at < length w.chain.members → IfSome (slice_get w.chain.members at) (λ m. s ≡ m.node.store) → has_stopped (disk s) ≡ false → NoneBefore at → NoneBefore (at + 1)
  none_more at s within is runs before k other below here = ⊎_elim (λ less. before k other less here) (λ (more : at ≤ k). last (omega (arith, more, below))) (cases_lt k at)
    where
      last : k ≡ at → has_stopped (disk other) ≡ false
      last same =
          let there : slice_get (stores_of w) k ≡ Some s = subst (λ (n : ℕ). slice_get (stores_of w) n ≡ Some s) (sym same) (store_at at s within is) in
          subst (λ (s : S). has_stopped (disk s) ≡ false) (same_Some s other (sym there ∙ here)) runs

  pub none_at_all : (at : ℕ) → length w.chain.members ≤ at → NoneBefore at → MemberMetStop disk w → ⊥
  none_at_all at all before met =
      let within = slice_get_within (stores_of w) met.at met.store met.here in
      let long = length-map w.chain.members (λ (m : Linked S). m.node.store) in
      let no : false ≡ true = sym (before met.at met.store (omega (arith, within, long, all)) met.here) ∙ met.stopped in absurd (cc)

-- so is none by those of a world
none_of_all : {S : Type 0} (disk : S → MemDisk) (w : Seen S) → All (λ s. has_stopped (disk s) ≡ false) (stores_of w) → MemberMetStop disk w → ⊥
none_of_all disk w go met =
    let runs : has_stopped (disk met.store) ≡ false = subst (λ s. has_stopped (disk s) ≡ false) (get_or_from_slice_get (stores_of w) met.at met.store met.store met.here)
    (go met.at met.store (slice_get_within (stores_of w) met.at met.store met.here)) in
    let no : false ≡ true = sym runs ∙ met.stopped in absurd (cc)

-- where no disk has stopped none was met
pub none_met : {S : Type 0} (disk : S → MemDisk) (w : Managed S) → AllGo disk w → w.candidate ≡ Nobody → HasMetStop disk w → ⊥
none_met disk w go nobody (inl met) = none_of_all disk w.world go.members met
none_met disk w go nobody (inr (inl met)) = let no : false ≡ true = sym go.config ∙ met in absurd (cc)
none_met {S = S} disk w go nobody (inr (inr met)) = subst (λ (x : Candidate S MemDisk). RefusedByStop x) nobody met

-- a disk that refused is that still where another is noted
noted_refused : {S : Type 0} (chain : Chained S) (old new : Candidate S MemDisk) → Notes chain old new → RefusedByStop new → RefusedByStop old
noted_refused {S = S} chain Nobody new notes met = subst (λ (x : Candidate S MemDisk). RefusedByStop x) notes met
noted_refused {S = S} chain (Copying c) new (inl (its, (d, is, noted))) met = subst (λ (x : Candidate S MemDisk). RefusedByStop x) is met
noted_refused {S = S} chain (Copying c) new (inr (not, is)) met = subst (λ (x : Candidate S MemDisk). RefusedByStop x) is met
noted_refused {S = S} chain (Whole w) new notes met = subst (λ (x : Candidate S MemDisk). RefusedByStop x) notes met
noted_refused {S = S} chain Counted new notes met = subst (λ (x : Candidate S MemDisk). RefusedByStop x) notes met
noted_refused {S = S} chain (Refused r) new notes met = subst (λ (x : Candidate S MemDisk). RefusedByStop x) notes met

-- nor by what leaves the chain, the configuration's disk and the one on its way as they were
met_before : {S : Type 0} (disk : S → MemDisk) (old new : Managed S) → new.world.chain ≡ old.world.chain → new.management ≡ old.management → (RefusedByStop new.candidate → RefusedByStop old.candidate) → HasMetStop disk new → HasMetStop disk old
met_before disk old new same management candidate (inl met) =
    inl (record { at = met.at; store = met.store; here = ap (λ c. slice_get (map (λ m. m.node.store) c.members) met.at) (sym same) ∙ met.here; stopped = met.stopped })
met_before disk old new same management candidate (inr (inl met)) = inr (inl (ap (λ m. has_stopped m.disk) (sym management) ∙ met))
met_before disk old new same management candidate (inr (inr met)) = inr (inr (candidate met))

module _ {S : Type 0} (premise : Type 0) (about : S → About) (keeps : S → List ℕ → Type 0) (is_pending : S → ℕ → Type 0) (may_leave_now : S → List ℕ → Type 0) (moment : S → ℕ)
    (left_since : S → ℕ → List ℕ → Type 0) (failures : S → ℕ) (disk : S → MemDisk) where
  -- so what met one fed no session
  pub unfed : (deed : Deed) (answer : Answer) (old new : Managed S) → DoesDeed premise about keeps is_pending may_leave_now moment left_since failures disk deed answer old new → (HasMetStop disk old → ⊥) → HasMetStop disk new
      → (id : SessionId) → fed_by deed answer id ≡ []
  unfed (deeds.Step (Connect session at)) answer old new does runs met id = refl
  unfed (deeds.Step (Bytes session piece)) answer old new is runs met id =
      let ((given, tells, did), same, still) = is.did in
      let chain = takes_in about premise keeps is_pending may_leave_now moment left_since failures session piece.items given old.world is.unnoted.world did in
      absurd (runs (met_before disk old new (ap (λ w. w.world.chain) is.same ∙ chain) (ap (λ w. w.management) is.same ∙ same)
      (λ refused. subst (λ (x : Candidate S MemDisk). RefusedByStop x) still (noted_refused new.world.chain is.unnoted.candidate new.candidate is.noted refused)) met))
  unfed (deeds.Step (End session)) answer old new does runs met id = refl
  unfed (deeds.Step (HandOut session)) answer old new does runs met id = refl
  unfed (deeds.Step (Member at act)) answer old new does runs met id = refl
  unfed (deeds.Manage act) answer old new does runs met id = refl
  unfed (deeds.Arm at event) answer old new does runs met id = refl
  unfed (deeds.ArmConfig event) answer old new does runs met id = refl

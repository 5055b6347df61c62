use Rattle.std.proofs.Common.{inl, inr, ◌∙◌, List, ℕ, Err, ap, refl, subst, sym, arith}
use Rattle.home_blocks.specs.Places.{disk_size_of}
use Rattle.home_blocks.specs.Superblock.{HasOtherVersion, IsNoSuperblock, IsEncoding}
use Rattle.home_blocks.specs.declared.refusal.Refusal.{Refusal}
use Rattle.home_blocks.specs.declared.refusal.Refusal.TheVariants.{NotAVolume, OtherVersion}
use Rattle.home_blocks.proofs.Payloads.{at_end, cannot, held_superblock, loaded_none, loaded_number, loaded_some, passed_on}
use Rattle.home_blocks.proofs.home.Home.open.Goals as goal

pub returns-in_default-clause-not_a_volume : goal.returns-in_default-clause-not_a_volume
returns-in_default-clause-not_a_volume g c = λ keeps _.
    let d0 = c.args.disk.now in
    let d1 = c.load.new.disk in
    inr (inl (loaded_none c.in_ok-loaded.loaded.0 (g.D.Disk.gives d1) (g.D.Disk.gives d0) (g.D.Disk.may_leave_now d1) (c.in_ok-loaded.ensures.part ∙ c.superblock_part.ensures)
    (c.in_ok-loaded.ensures.reads keeps).same c.in_ok-loaded.loaded.1 c.in_default.is (c.in_ok-loaded.ensures.settled keeps)))

pub returns-in_err-superblock-clause-other_version : goal.returns-in_err-superblock-clause-other_version
returns-in_err-superblock-clause-other_version g c = λ keeps told.
    let d0 = c.args.disk.now in
    let d1 = c.load.new.disk in
    let payload = c.in-Some.payload in
    let holds = loaded_some c.in_ok-loaded.loaded.0 (g.D.Disk.gives d1) (g.D.Disk.gives d0) (g.D.Disk.may_leave_now d1) (c.in_ok-loaded.ensures.part ∙ c.superblock_part.ensures)
    (c.in_ok-loaded.ensures.reads keeps).same c.in_ok-loaded.loaded.1 payload c.in-Some.is (c.in_ok-loaded.ensures.settled keeps) in
    let field = passed_on c.from_residual-in_err-superblock.result OtherVersion c.in_err-superblock.field-0.0 c.from_residual-in_err-superblock.ensures.1 told in
    record {
      room = omega (arith, c.if-len-lt-PAIR_SIZE.false, c.len.ensures, g.met.D.Disk.gives_size keeps d0);
      payload = payload.items;
      holds = holds;
      other = subst HasOtherVersion c.deref.ensures.value (c.in_err-superblock.ensures.other_version.0 (ap (λ (e : Refusal). Err e) field));
    }

pub returns-in_err-superblock-clause-not_a_volume : goal.returns-in_err-superblock-clause-not_a_volume
returns-in_err-superblock-clause-not_a_volume g c = λ keeps told.
    let d0 = c.args.disk.now in
    let d1 = c.load.new.disk in
    let payload = c.in-Some.payload in
    let holds = loaded_some c.in_ok-loaded.loaded.0 (g.D.Disk.gives d1) (g.D.Disk.gives d0) (g.D.Disk.may_leave_now d1) (c.in_ok-loaded.ensures.part ∙ c.superblock_part.ensures)
    (c.in_ok-loaded.ensures.reads keeps).same c.in_ok-loaded.loaded.1 payload c.in-Some.is (c.in_ok-loaded.ensures.settled keeps) in
    let field = passed_on c.from_residual-in_err-superblock.result NotAVolume c.in_err-superblock.field-0.0 c.from_residual-in_err-superblock.ensures.1 told in
    let none = subst IsNoSuperblock c.deref.ensures.value (c.in_err-superblock.ensures.not_a_volume.0 (ap (λ (e : Refusal). Err e) field)) in
    inr (inr (inl (record { payload = payload.items; holds = holds; no_superblock = none })))

pub returns-then-not-can_migrate-clause-not_a_volume : goal.returns-then-not-can_migrate-clause-not_a_volume
returns-then-not-can_migrate-clause-not_a_volume g c = λ keeps told.
    let d0 = c.args.disk.now in
    let d1 = c.load.new.disk in
    let sb = c.in_ok-superblock.superblock in
    let payload = c.in-Some.payload in
    let holds = loaded_some c.in_ok-loaded.loaded.0 (g.D.Disk.gives d1) (g.D.Disk.gives d0) (g.D.Disk.may_leave_now d1) (c.in_ok-loaded.ensures.part ∙ c.superblock_part.ensures)
    (c.in_ok-loaded.ensures.reads keeps).same c.in_ok-loaded.loaded.1 payload c.in-Some.is (c.in_ok-loaded.ensures.settled keeps) in
    let number = loaded_number c.in_ok-loaded.loaded.0 (g.D.Disk.gives d1) (g.D.Disk.gives d0) (g.D.Disk.may_leave_now d1) (c.in_ok-loaded.ensures.part ∙ c.superblock_part.ensures)
    (c.in_ok-loaded.ensures.reads keeps).same c.in_ok-loaded.loaded.1 payload c.in-Some.is (c.in_ok-loaded.ensures.settled keeps) in
    let found = subst (λ (l : List ℕ). IsEncoding l sb) c.deref.ensures.value c.in_ok-superblock.ensures.found in
    let (old, last) = cannot sb c.in_ok-loaded.loaded.0.number (λ can. let e = c.if-not-can_migrate.ensures.1 can in cc) in
    inr (inr (inr (inl (at_end sb payload.items (g.D.Disk.gives d0) found holds old (number ∙ last)))))

pub returns-then-len-disk_size-clause-not_a_volume : goal.returns-then-len-disk_size-clause-not_a_volume
returns-then-len-disk_size-clause-not_a_volume g c = λ keeps told.
    let d0 = c.args.disk.now in
    let d1 = c.load.new.disk in
    let sb = c.in_ok-superblock.superblock in
    let payload = c.in-Some.payload in
    let holds = loaded_some c.in_ok-loaded.loaded.0 (g.D.Disk.gives d1) (g.D.Disk.gives d0) (g.D.Disk.may_leave_now d1) (c.in_ok-loaded.ensures.part ∙ c.superblock_part.ensures)
    (c.in_ok-loaded.ensures.reads keeps).same c.in_ok-loaded.loaded.1 payload c.in-Some.is (c.in_ok-loaded.ensures.settled keeps) in
    let number = loaded_number c.in_ok-loaded.loaded.0 (g.D.Disk.gives d1) (g.D.Disk.gives d0) (g.D.Disk.may_leave_now d1) (c.in_ok-loaded.ensures.part ∙ c.superblock_part.ensures)
    (c.in_ok-loaded.ensures.reads keeps).same c.in_ok-loaded.loaded.1 payload c.in-Some.is (c.in_ok-loaded.ensures.settled keeps) in
    let found = subst (λ (l : List ℕ). IsEncoding l sb) c.deref.ensures.value c.in_ok-superblock.ensures.found in
    let can = c.if-not-can_migrate.ensures.0 refl in
    let needs = c.disk_size.ensures ∙ ap disk_size_of c.geometry.ensures in
    inr (inr (inr (inr (record {
      superblock = sb;
      holds = held_superblock sb payload.items (g.D.Disk.gives d0) found holds (λ old last. can old (sym number ∙ last));
      short = omega (arith, c.if-len-disk_size.true, c.len-2.ensures, needs, c.in_ok-loaded.ensures.size, g.met.D.Disk.gives_size keeps d0);
    }))))

pub returns-clause-volume : goal.returns-clause-volume
returns-clause-volume g c = λ keeps.
    let d0 = c.args.disk.now in
    let d1 = c.load.new.disk in
    let sb = c.in_ok-superblock.superblock in
    let payload = c.in-Some.payload in
    let holds = loaded_some c.in_ok-loaded.loaded.0 (g.D.Disk.gives d1) (g.D.Disk.gives d0) (g.D.Disk.may_leave_now d1) (c.in_ok-loaded.ensures.part ∙ c.superblock_part.ensures)
    (c.in_ok-loaded.ensures.reads keeps).same c.in_ok-loaded.loaded.1 payload c.in-Some.is (c.in_ok-loaded.ensures.settled keeps) in
    let number = loaded_number c.in_ok-loaded.loaded.0 (g.D.Disk.gives d1) (g.D.Disk.gives d0) (g.D.Disk.may_leave_now d1) (c.in_ok-loaded.ensures.part ∙ c.superblock_part.ensures)
    (c.in_ok-loaded.ensures.reads keeps).same c.in_ok-loaded.loaded.1 payload c.in-Some.is (c.in_ok-loaded.ensures.settled keeps) in
    let found = subst (λ (l : List ℕ). IsEncoding l sb) c.deref.ensures.value c.in_ok-superblock.ensures.found in
    let can = c.if-not-can_migrate.ensures.0 refl in
    let needs = c.disk_size.ensures ∙ ap disk_size_of c.geometry.ensures in
    record {
      holds = held_superblock sb payload.items (g.D.Disk.gives d0) found holds (λ old last. can old (sym number ∙ last));
      room = omega (arith, c.if-len-disk_size.false, c.len-2.ensures, needs, c.in_ok-loaded.ensures.size, g.met.D.Disk.gives_size keeps d0);
    }

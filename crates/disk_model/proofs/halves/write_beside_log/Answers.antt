use Rattle.std.proofs.Common.{ℕ, List, length, take, refl, sym, ap, ◌∙◌}
use Rattle.std.proofs.lemmas.Result.{on_ok_weaker}
use Rattle.disk_model.specs.Disk.{put, Torn}
use Rattle.disk_model.specs.Halves.{Beside, LeftBehind, LeftBelow, MayBeTorn, gives_below, left_behind, left_below, rejoined}
use Rattle.disk_model.specs.Moments.{goes_on, started}
use Rattle.disk_model.proofs.halves.write_beside_log.Goals as goal

still_torn : (at n : ℕ) (c : List ℕ) → Torn at n c c
still_torn at n c = record { size = refl; before = refl; after = refl }

-- what may be left may be left of each half
at_first : (border at n : ℕ) (may_leave : List ℕ → Type 0) (c : List ℕ) → may_leave c → Beside border (MayBeTorn at n (LeftBelow border may_leave)) (LeftBehind border may_leave) c
at_first border at n may_leave c left = ((take border c, (c, left, refl), still_torn at n (take border c)), (c, left, refl))

pub returns-in_err-log-clause-any_moment : goal.returns-in_err-log-clause-any_moment
returns-in_err-log-clause-any_moment g c = λ keeps.
    let d = g.D.Disk in
    let old = c.args.disk.now in
    let n = length c.args.bytes.now in
    let either = Beside c.args.border (MayBeTorn c.args.at n (LeftBelow c.args.border (d.may_leave_now old))) (LeftBehind c.args.border (d.may_leave_now old)) in
    let first = at_first c.args.border c.args.at n (d.may_leave_now old) in
    let untouched = c.in_err-log.ensures.unlent keeps in
    goes_on d.moment d.may_have_left_since old old c.lend_log.new.self either (d.may_leave_now c.lend_log.new.self)
    (started d.moment d.may_have_left_since old either (λ x left. first x (g.met.D.Disk.only_now keeps old x left)))
    untouched.time (λ x left. first x (untouched.leaves x left))

pub returns-clause-any_moment : goal.returns-clause-any_moment
returns-clause-any_moment g c = λ keeps.
    let d = g.D.Disk in
    let l = g.D.Log.Disk in
    let old = c.args.disk.now in
    let home = c.lend_log.new.self in
    let border = c.args.border in
    let n = length c.args.bytes.now in
    let cut = c.in_ok-log.ensures.halves keeps in
    let size = g.met.D.Disk.gives_size keeps home ∙ c.in_ok-log.ensures.home in
    let log_keeps = g.met.D.HalvedDisk.log_keeps keeps in
    let torn = MayBeTorn c.args.at n (LeftBelow border (d.may_leave_now old)) in
    let below = left_below cut size (λ a left. g.met.D.Disk.leaves_size keeps home a left ∙ c.in_ok-log.ensures.home) (g.met.D.Log.Disk.leaves_gives log_keeps c.in_ok-log.log) in
    let behind = left_behind cut size (g.met.D.Disk.leaves_gives keeps home) in
    let home_run = goes_on d.moment d.may_have_left_since home home c.write_at-written.new.self torn (d.may_leave_now c.write_at-written.new.self)
    (started d.moment d.may_have_left_since home torn (λ a left. (a, below a (g.met.D.Disk.only_now keeps home a left), still_torn c.args.at n a)))
    (c.write_at-written.ensures.time keeps) (λ a left. let (b, was, is) = c.write_at-written.ensures.leaves keeps a left in (b, below b was, is)) in
    let log_run = started l.moment l.may_have_left_since c.in_ok-log.log (LeftBehind border (d.may_leave_now old)) (λ x left. behind x (g.met.D.Log.Disk.only_now log_keeps c.in_ok-log.log x left)) in
    rejoined border torn (LeftBehind border (d.may_leave_now old)) c.return_log.new.self
    (λ x left. at_first border c.args.at n (d.may_leave_now old) x (g.met.D.Disk.only_now keeps old x left))
    (c.in_ok-log.ensures.past keeps) (c.in_ok-log.ensures.begins keeps).0 (c.in_ok-log.ensures.begins keeps).1
    home_run log_run c.in_ok-log.ensures.sizes.0 (c.return_log.ensures.time keeps)

pub returns-clause-written : goal.returns-clause-written
returns-clause-written g c = λ keeps.
    let d = g.D.Disk in
    let home = c.lend_log.new.self in
    let then = c.write_at-written.new.self in
    let same = c.in_ok-log.ensures.sizes.0 in
    let below = gives_below (c.in_ok-log.ensures.halves keeps) (g.met.D.Disk.gives_size keeps home ∙ c.in_ok-log.ensures.home) in
    let again = gives_below (c.return_log.ensures.halves keeps) (g.met.D.Disk.gives_size keeps then ∙ c.write_at-written.ensures.size ∙ c.in_ok-log.ensures.home ∙ sym same) in
    on_ok_weaker c.write_at-written.result
    (λ holds. ap (λ (n : ℕ). take n (d.gives c.return_log.new.self)) (sym same) ∙ again ∙ holds ∙ ap (λ (l : List ℕ). put l c.args.at c.args.bytes.now) (sym below))
    (c.write_at-written.ensures.gives keeps)

-- What a stop may have left of a disk in memory, one call on, and once its log is back.
use Rattle.std.proofs.Common.{◌≡◌, ◌⊎◌, inl, inr, ⊎_elim, ℕ, ◌+◌, ◌-◌, ◌≤◌, List, [], ◌∷◌, ◌++◌, length, take, drop, map, refl, sym, ◌∙◌, ap, subst, arith}
use Rattle.std.proofs.lemmas.List.{take_all}
use Rattle.disk_model.specs.Content.{shown_after, unsynced_after, ranges_from, IsImage, MayHaveLeft}
use Rattle.disk_model.specs.Disk.{Elapses}
use Rattle.disk_model.specs.Eras.{Stage, whole, halved, Stages, none, first, moments_at, moments_in, moments_of, stages_of, stage_of, stage_step, LeftAt, LeftIn, LeftInRun, LeftEarlier, LeftSince}
use Rattle.disk_model.specs.EraLaws.{counts_later}
use Rattle.disk_model.specs.Halves.{AreHalves, IsPast, Rejoins}
use Rattle.disk_model.specs.Waiting.{waiting_first, waiting_now}
use Rattle.disk_model.specs.declared.content.Change.{Change}
use Rattle.disk_model.specs.declared.content.Content.{Content}
use Rattle.disk_model.specs.declared.content.Extent.{Extent}
use Rattle.disk_model.specs.declared.era.Era.{Era, fold-roll-Era}
use Rattle.disk_model.specs.declared.era.Era.TheOpen.{Era-F}
use Rattle.disk_model.specs.declared.era.Era.TheVariants.{Whole, Halved, rolls-Whole, rolls-Halved}
use Rattle.disk_model.specs.declared.era.Run.{Run}
use Rattle.std.specs.Prelude.{Vec}
use Rattle.std.specs.declared.alloc.Global.{Global}

-- a call behind these eras
pub elapses_behind : (eras eras_then : List Era) (old new : Content) → eras_then ≡ eras
    → Elapses (length old.log.items) (length new.log.items) (MayHaveLeft old.base.items (waiting_first old) old.log.items) (MayHaveLeft new.base.items (waiting_first new) new.log.items) (IsImage new.bytes.items (waiting_now new))
    → Elapses (moments_of eras + length old.log.items) (moments_of eras_then + length new.log.items) (LeftSince eras old.base.items (waiting_first old) old.log.items) (LeftSince eras_then new.base.items (waiting_first new) new.log.items) (IsImage new.bytes.items (waiting_now new))
elapses_behind eras eras_then old new same time =
    subst (λ (es : List Era). Elapses (moments_of eras + length old.log.items) (moments_of es + length new.log.items) (LeftSince eras old.base.items (waiting_first old) old.log.items) (LeftSince es new.base.items (waiting_first new) new.log.items) (IsImage new.bytes.items (waiting_now new)))
    (sym same) behind
  where
    behind : Elapses (moments_of eras + length old.log.items) (moments_of eras + length new.log.items) (LeftSince eras old.base.items (waiting_first old) old.log.items) (LeftSince eras new.base.items (waiting_first new) new.log.items) (IsImage new.bytes.items (waiting_now new))
    behind = record {
      later = omega (arith, time.later);
      nothing_else = λ t c le left. ⊎_elim
          (λ past. inl (inl past))
          (λ since. ⊎_elim (λ was. inl (inr was)) (λ now. inr now) (time.nothing_else (t - moments_of eras) c (omega (arith, le)) since))
          left;
      keeps = λ t c le left. ⊎_elim (λ past. inl past) (λ since. inr (time.keeps (t - moments_of eras) c (omega (arith, le)) since)) left;
    }

-- what was the past stays it
pub past_is : (eras eras_then : List Era) (old then : Content) → eras_then ≡ eras → then ≡ old
    → IsPast (moments_of eras_then + length then.log.items) (moments_of eras + length old.log.items) (LeftSince eras_then then.base.items (waiting_first then) then.log.items) (LeftSince eras old.base.items (waiting_first old) old.log.items)
past_is eras eras_then old then same also =
    subst (λ (es : List Era). IsPast (moments_of es + length then.log.items) (moments_of eras + length old.log.items) (LeftSince es then.base.items (waiting_first then) then.log.items) (LeftSince eras old.base.items (waiting_first old) old.log.items)) (sym same)
    (subst (λ (k : Content). IsPast (moments_of eras + length k.log.items) (moments_of eras + length old.log.items) (LeftSince eras k.base.items (waiting_first k) k.log.items) (LeftSince eras old.base.items (waiting_first old) old.log.items)) (sym also)
    (record { at = refl; nothing_else = λ t c le left. left; keeps = λ t c le left. left }))

-- what the stage of an era is
stage_whole : (run : Run) → stage_of (Whole run) ≡ whole run
stage_whole run = ap stage_of (sym (rolls-Whole run)) ∙ fold-roll-Era Stage stage_step (Era-F.Whole run)

stage_halved : (border : ℕ) (home : Vec Era Global) (home_run : Run) (log : Vec Era Global) (log_run : Run)
    → stage_of (Halved border home home_run log log_run) ≡ halved border (stages_of (map stage_of home.items)) home_run (stages_of (map stage_of log.items)) log_run
stage_halved border home home_run log log_run = ap stage_of (sym (rolls-Halved border home home_run log log_run)) ∙ fold-roll-Era Stage stage_step (Era-F.Halved border home home_run log log_run)

-- two eras more
abbrev Two : Stages → Stage → Stage → Stages
Two none a b = first a (first b none)
Two (first s ss) a b = first s (Two ss a b)

stages_two : (eras : List Era) (x y : Era) (a b : Stage) → stage_of x ≡ a → stage_of y ≡ b → stages_of (map stage_of (eras ++ x ∷ y ∷ [])) ≡ Two (stages_of (map stage_of eras)) a b
stages_two [] x y a b is also = ap (λ (s : Stage). first s (first (stage_of y) none)) is ∙ ap (λ (s : Stage). first a (first s none)) also
stages_two (e ∷ eras) x y a b is also = ap (λ (ss : Stages). first (stage_of e) ss) (stages_two eras x y a b is also)

moments_two : (ss : Stages) (a b : Stage) → moments_in (Two ss a b) ≡ moments_in ss + moments_at a + moments_at b
moments_two none a b = omega arith
moments_two (first s ss) a b = omega (arith, moments_two ss a b)

two_from : (ss : Stages) (a b : Stage) (t : ℕ) (c : List ℕ) → LeftIn (Two ss a b) t c → LeftIn ss t c ⊎ (LeftAt a (t - moments_in ss) c ⊎ LeftAt b (t - moments_in ss - moments_at a) c)
two_from none a b t c left =
    let begin : t ≡ t - 0 = omega arith in
    subst (λ (n : ℕ). LeftIn none t c ⊎ (LeftAt a n c ⊎ LeftAt b (n - moments_at a) c)) begin
    (⊎_elim (λ here. inr (inl here)) (λ later. ⊎_elim (λ there. inr (inr there)) (λ no. absurd no) later) left)
two_from (first s ss) a b t c left =
    let further : t - moments_at s - moments_in ss ≡ t - (moments_at s + moments_in ss) = omega arith in
    ⊎_elim (λ here. inl (inl here))
    (λ later. ⊎_elim (λ old. inl (inr old)) (λ new. inr (subst (λ (n : ℕ). LeftAt a n c ⊎ LeftAt b (n - moments_at a) c) further new)) (two_from ss a b (t - moments_at s) c later))
    left

two_to : (ss : Stages) (a b : Stage) (t : ℕ) (c : List ℕ) → LeftIn ss t c ⊎ (LeftAt a (t - moments_in ss) c ⊎ LeftAt b (t - moments_in ss - moments_at a) c) → LeftIn (Two ss a b) t c
two_to none a b t c left =
    let begin : t - 0 ≡ t = omega arith in
    ⊎_elim (λ no. absurd no)
    (λ new. ⊎_elim (λ here. inl here) (λ there. inr (inl there)) (subst (λ (n : ℕ). LeftAt a n c ⊎ LeftAt b (n - moments_at a) c) begin new))
    left
two_to (first s ss) a b t c left =
    let further : t - (moments_at s + moments_in ss) ≡ t - moments_at s - moments_in ss = omega arith in
    ⊎_elim
    (λ old. ⊎_elim (λ here. inl here) (λ later. inr (two_to ss a b (t - moments_at s) c (inl later))) old)
    (λ new. inr (two_to ss a b (t - moments_at s) c (inr (subst (λ (n : ℕ). LeftAt a n c ⊎ LeftAt b (n - moments_at a) c) further new))))
    left

-- since the beginning of a half
from_start : (eras : List Era) (run : Run) (c : List ℕ) → LeftIn (stages_of (map stage_of eras)) 0 c ⊎ LeftInRun run 0 c → LeftSince eras run.base.items (ranges_from 0 run.loose.items) run.log.items 0 c
from_start eras run c left =
    let begin : 0 ≡ 0 - moments_of eras = omega arith in
    ⊎_elim (λ old. inl old) (λ here. inr (subst (λ (n : ℕ). LeftInRun run n c) begin here)) left

to_start : (eras : List Era) (run : Run) (c : List ℕ) → LeftSince eras run.base.items (ranges_from 0 run.loose.items) run.log.items 0 c → LeftIn (stages_of (map stage_of eras)) 0 c ⊎ LeftInRun run 0 c
to_start eras run c left =
    let begin : 0 - moments_of eras ≡ 0 = omega arith in
    ⊎_elim (λ old. inl old) (λ here. inr (subst (λ (n : ℕ). LeftInRun run n c) begin here)) left

-- the whole again
module _ (eras eras_then : List Era) (run : Run) (border : ℕ) (home : Vec Era Global) (home_run : Run) (log : Vec Era Global) (log_run : Run)
    (is : eras_then ≡ eras ++ Whole run ∷ Halved border home home_run log log_run ∷ []) where
  abbrev ss : Stages
  ss = stages_of (map stage_of eras)

  abbrev a : Stage
  a = whole run

  abbrev b : Stage
  b = halved border (stages_of (map stage_of home.items)) home_run (stages_of (map stage_of log.items)) log_run

  stages : stages_of (map stage_of eras_then) ≡ Two ss a b
  stages = ap (λ (es : List Era). stages_of (map stage_of es)) is ∙ stages_two eras (Whole run) (Halved border home home_run log log_run) a b (stage_whole run) (stage_halved border home home_run log log_run)

  count : moments_of eras_then ≡ moments_of eras + (length run.log.items + 1) + 1
  count = ap moments_in stages ∙ moments_two ss a b

  pub rejoins_behind : (content home_content log_content : Content) → content.log.items ≡ []
      → home_run.base.items ≡ home_content.base.items → home_run.loose.items ≡ home_content.loose.items → home_run.log.items ≡ home_content.log.items
      → log_run.base.items ≡ log_content.base.items → log_run.loose.items ≡ log_content.loose.items → log_run.log.items ≡ log_content.log.items
      → AreHalves border content.bytes.items home_content.bytes.items log_content.bytes.items (IsImage content.bytes.items (waiting_now content)) (IsImage home_content.bytes.items (waiting_now home_content)) (IsImage log_content.bytes.items (waiting_now log_content))
      → Rejoins (moments_of eras + length run.log.items) (moments_of eras_then + length content.log.items) (LeftSince eras run.base.items (ranges_from 0 run.loose.items) run.log.items)
      (LeftSince eras_then content.base.items (waiting_first content) content.log.items) border
      (LeftSince home.items home_content.base.items (waiting_first home_content) home_content.log.items 0) (LeftSince log.items log_content.base.items (waiting_first log_content) log_content.log.items 0)
  rejoins_behind content home_content log_content begins home_base home_loose home_log log_base log_loose log_log halves = record {
    later = omega (arith, count);
    nothing_else = λ t c le left. ⊎_elim (λ past. earlier t c le past) (λ here. inr (beside_now c here)) left;
    keeps = λ t c le left. inl (subst (λ (s : Stages). LeftIn s t c) (sym stages) (two_to ss a b t c (⊎_elim (λ old. inl old) (λ here. inr (inl here)) left)));
    beside = λ t c le first_half second_half.
        let start : t - moments_in ss - moments_at a ≡ 0 = omega (arith, le) in
        inl (subst (λ (s : Stages). LeftIn s t c) (sym stages) (two_to ss a b t c (inr (inr (start, home_in c first_half, log_in c second_half)))));
  }
    where
      home_in : (c : List ℕ) → LeftSince home.items home_content.base.items (waiting_first home_content) home_content.log.items 0 (take border c) → LeftIn (stages_of (map stage_of home.items)) 0 (take border c) ⊎ LeftInRun home_run 0 (take border c)
      home_in c left = to_start home.items home_run (take border c)
          (subst (λ (l : List Change). LeftSince home.items home_run.base.items (ranges_from 0 home_run.loose.items) l 0 (take border c)) (sym home_log)
          (subst (λ w. LeftSince home.items home_run.base.items (ranges_from 0 w) home_content.log.items 0 (take border c)) (sym home_loose)
          (subst (λ (l : List ℕ). LeftSince home.items l (waiting_first home_content) home_content.log.items 0 (take border c)) (sym home_base) left)))

      home_out : (c : List ℕ) → LeftIn (stages_of (map stage_of home.items)) 0 (take border c) ⊎ LeftInRun home_run 0 (take border c) → LeftSince home.items home_content.base.items (waiting_first home_content) home_content.log.items 0 (take border c)
      home_out c left =
          subst (λ (l : List ℕ). LeftSince home.items l (waiting_first home_content) home_content.log.items 0 (take border c)) home_base
          (subst (λ w. LeftSince home.items home_run.base.items (ranges_from 0 w) home_content.log.items 0 (take border c)) home_loose
          (subst (λ (l : List Change). LeftSince home.items home_run.base.items (ranges_from 0 home_run.loose.items) l 0 (take border c)) home_log (from_start home.items home_run (take border c) left)))

      log_in : (c : List ℕ) → LeftSince log.items log_content.base.items (waiting_first log_content) log_content.log.items 0 (drop border c) → LeftIn (stages_of (map stage_of log.items)) 0 (drop border c) ⊎ LeftInRun log_run 0 (drop border c)
      log_in c left = to_start log.items log_run (drop border c)
          (subst (λ (l : List Change). LeftSince log.items log_run.base.items (ranges_from 0 log_run.loose.items) l 0 (drop border c)) (sym log_log)
          (subst (λ w. LeftSince log.items log_run.base.items (ranges_from 0 w) log_content.log.items 0 (drop border c)) (sym log_loose)
          (subst (λ (l : List ℕ). LeftSince log.items l (waiting_first log_content) log_content.log.items 0 (drop border c)) (sym log_base) left)))

      log_out : (c : List ℕ) → LeftIn (stages_of (map stage_of log.items)) 0 (drop border c) ⊎ LeftInRun log_run 0 (drop border c) → LeftSince log.items log_content.base.items (waiting_first log_content) log_content.log.items 0 (drop border c)
      log_out c left =
          subst (λ (l : List ℕ). LeftSince log.items l (waiting_first log_content) log_content.log.items 0 (drop border c)) log_base
          (subst (λ w. LeftSince log.items log_run.base.items (ranges_from 0 w) log_content.log.items 0 (drop border c)) log_loose
          (subst (λ (l : List Change). LeftSince log.items log_run.base.items (ranges_from 0 log_run.loose.items) l 0 (drop border c)) log_log (from_start log.items log_run (drop border c) left)))

      earlier : (t : ℕ) (c : List ℕ) → t ≤ moments_of eras + length run.log.items → LeftEarlier eras_then t c
          → LeftSince eras run.base.items (ranges_from 0 run.loose.items) run.log.items t c ⊎ (LeftSince home.items home_content.base.items (waiting_first home_content) home_content.log.items 0 (take border c) × LeftSince log.items log_content.base.items (waiting_first log_content) log_content.log.items 0 (drop border c))
      earlier t c le past = ⊎_elim (λ old. inl (inl old))
          (λ new. ⊎_elim (λ here. inl (inr here)) (λ there. inr (home_out c there.1, log_out c there.2)) new)
          (two_from ss a b t c (subst (λ (s : Stages). LeftIn s t c) stages past))

      now : (c : List ℕ) (k : ℕ) → IsImage (shown_after content.base.items (take k content.log.items)) (unsynced_after (waiting_first content) (take k content.log.items)) c → IsImage content.bytes.items (waiting_now content) c
      now c k image =
          let none_left : take k content.log.items ≡ content.log.items = take_all k content.log.items (omega (arith, ap length begins)) in
          subst (λ (l : List ℕ). IsImage l (waiting_now content) c) (sym content.replayed)
          (subst (λ (r : List Extent). IsImage (shown_after content.base.items content.log.items) r c) (sym content.ranges)
          (subst (λ (l : List Change). IsImage (shown_after content.base.items l) (unsynced_after (waiting_first content) l) c) none_left image))

      -- what may be left now may be left of each half now
      beside_now : {n : ℕ} (c : List ℕ) → MayHaveLeft content.base.items (waiting_first content) content.log.items n c
          → LeftSince home.items home_content.base.items (waiting_first home_content) home_content.log.items 0 (take border c) × LeftSince log.items log_content.base.items (waiting_first log_content) log_content.log.items 0 (drop border c)
      beside_now c (k, from, to, image) =
          let sides = halves.apart c (now c k image) in (
            counts_later home.items home_content.base.items home_content.bytes.items (waiting_first home_content) home_content.log.items (waiting_now home_content) home_content.replayed home_content.ranges 0 (take border c) (omega arith) sides.0,
            counts_later log.items log_content.base.items log_content.bytes.items (waiting_first log_content) log_content.log.items (waiting_now log_content) log_content.replayed log_content.ranges 0 (drop border c) (omega arith) sides.1,
          )

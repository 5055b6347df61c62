use Rattle.std.proofs.Common.{rules, arith, ◌≡◌, ◌+◌, ◌++◌, Some, true, false, [], length, length-drop, drop, map, option_map, sym, ◌∙◌, ap, subst}
use Rattle.std.specs.Prelude.{All}
use Rattle.std.specs.Option.{option_to_list}
use Rattle.nbd_session.specs.Intake.{IsIntake, IsSound, behind, progress_of, wanted_view}
use Rattle.nbd_session.specs.Progress.{is_over, progress_in}
use Rattle.nbd_session.specs.Session.{used_from}
use Rattle.nbd_session.proofs.Courses.{is_over-phase_after, less_over, less_used, still_open}
use Rattle.nbd_session.proofs.Requests.{fits_behind, sound_added, step_ends, step_on, stepped}
use Rattle.nbd_session.proofs.session.Session.next_request.Goals as goal

pub returns-then-is_over-clause-steps : goal.returns-then-is_over-clause-steps
returns-then-is_over-clause-steps c =
    let now = c.args.self.now in
    let ws = c.args.wanted.now.items in
    let intake = c.in-Some.intake in
    let free = c.requires.free in
    let found : progress_in now.export now.phase (drop c.args.used now.kept) ≡ Some (progress_of now.export (drop c.args.used now.kept) intake) =
    sym c.intake.ensures.exact ∙ ap (option_map (progress_of now.export (drop c.args.used now.kept))) c.in-Some.is in
    let same : stepped now intake (now.in_flight + length ws) ≡ c.enter-2.new.self = search rules in
    let over : is_over intake.phase ≡ true = search (rules, is_over-phase_after) in
    let count : length now.kept ≡ c.len-came.result = search rules in
    step_ends now c.args.used ws intake free found over
    ∙ ap (λ s. used_from s (length now.kept) (map (wanted_view now.kept) ws)) same
    ∙ ap (λ n. used_from c.enter-2.new.self n (map (wanted_view now.kept) ws)) count

pub returns-then-is_over-clause-advances : goal.returns-then-is_over-clause-advances
returns-then-is_over-clause-advances c =
    let now = c.args.self.now in
    let found : progress_in now.export now.phase (drop c.args.used now.kept) ≡ Some (progress_of now.export (drop c.args.used now.kept) c.in-Some.intake) =
    sym c.intake.ensures.exact ∙ ap (option_map (progress_of now.export (drop c.args.used now.kept))) c.in-Some.is in
    let over : is_over c.enter-2.new.self.phase ≡ true = search rules in
    let count : length c.enter-2.new.self.kept ≡ c.len-came.result = search rules in
    less_over now c.enter-2.new.self c.args.used c.len-came.result over (still_open (used_from now c.args.used []) now.phase _ found) (omega (arith, count))

pub add-requires-clause-fits : goal.add-requires-clause-fits
add-requires-clause-fits c =
    let now = c.args.self.now in
    let count : length now.kept ≡ c.len-came.result = search rules in
    let sound : IsIntake now.export.size (drop c.args.used now.kept) c.in-Some.intake = search rules in
    fits_behind now.export.size c.args.used c.in-Some.intake.used _ (drop c.args.used now.kept) c.in-Some.intake.wanted sound.wanted
    (omega (arith, sound.within, count, c.len-came.type_inv, c.requires.within, length-drop c.args.used now.kept))

pub overflow_add-result : goal.overflow_add-result
overflow_add-result c =
    let now = c.args.self.now in
    let count : length now.kept ≡ c.len-came.result = search rules in
    let sound : IsIntake now.export.size (drop c.args.used now.kept) c.in-Some.intake = search rules in
    omega (arith, sound.within, count, c.len-came.type_inv, c.requires.within, length-drop c.args.used now.kept)

pub returns-clause-steps : goal.returns-clause-steps
returns-clause-steps c =
    let now = c.args.self.now in
    let ws = c.args.wanted.now.items in
    let intake = c.in-Some.intake in
    let free = c.requires.free in
    let found : progress_in now.export now.phase (drop c.args.used now.kept) ≡ Some (progress_of now.export (drop c.args.used now.kept) intake) =
    sym c.intake.ensures.exact ∙ ap (option_map (progress_of now.export (drop c.args.used now.kept))) c.in-Some.is in
    let same : stepped now intake (now.in_flight + length ws) ≡ c.enter-2.new.self = search rules in
    let open_still : is_over intake.phase ≡ false = search (rules, is_over-phase_after) in
    let added : ws ++ option_to_list (option_map (behind c.args.used) intake.wanted) ≡ c.add.new.wanted.items = search rules in
    step_on now c.args.used ws intake free found open_still
    ∙ ap (λ s. used_from s (c.args.used + intake.used) (map (wanted_view now.kept) (ws ++ option_to_list (option_map (behind c.args.used) intake.wanted)))) same
    ∙ ap (λ l. used_from c.enter-2.new.self (c.args.used + intake.used) (map (wanted_view now.kept) l)) added

pub returns-clause-advances : goal.returns-clause-advances
returns-clause-advances c =
    let now = c.args.self.now in
    let intake = c.in-Some.intake in
    let found : progress_in now.export now.phase (drop c.args.used now.kept) ≡ Some (progress_of now.export (drop c.args.used now.kept) intake) =
    sym c.intake.ensures.exact ∙ ap (option_map (progress_of now.export (drop c.args.used now.kept))) c.in-Some.is in
    let sound : IsIntake now.export.size (drop c.args.used now.kept) intake = search rules in
    let open_still : is_over intake.phase ≡ false = search (rules, is_over-phase_after) in
    let was_open : is_over now.phase ≡ false = still_open (used_from now c.args.used []) now.phase _ found in
    let open_too : is_over c.enter-2.new.self.phase ≡ false = search rules in
    let same_kept : length c.enter-2.new.self.kept ≡ length now.kept = search rules in
    less_used now c.enter-2.new.self c.args.used intake.used (open_too ∙ sym was_open) same_kept (sound.advances open_still)
    (omega (arith, sound.within, c.requires.within, length-drop c.args.used now.kept))

pub returns-clause-sound : goal.returns-clause-sound
returns-clause-sound c =
    let now = c.args.self.now in
    let intake = c.in-Some.intake in
    let sound : IsIntake now.export.size (drop c.args.used now.kept) intake = search rules in
    let added : c.args.wanted.now.items ++ option_to_list (option_map (behind c.args.used) intake.wanted) ≡ c.add.new.wanted.items = search rules in
    subst (All (IsSound now.export.size now.kept (c.args.used + intake.used))) added
    (sound_added now.export.size c.args.used intake.used now.kept c.args.wanted.now.items intake.wanted c.requires.sound sound.wanted)

-- How a session goes through its input.
use Rattle.std.proofs.Common.{◌≡◌, ℕ, ◌+◌, ◌<◌, ◌≤◌, true, false, suc, zero, Some, None, Option, List, [], ◌∷◌, ◌++◌, length, length-append, drop, refl, sym, ◌∙◌, ap, arith, inl, inr}
use Rattle.std.proofs.lemmas.Bool.{cond-true, cond-false, cases_Bool, le-ltb, lt-ltb}
use Rattle.std.proofs.lemmas.Bool.Decides.{nat_tests}
use Rattle.std.proofs.lemmas.List.{drop-drop, drop_all}
use Rattle.std.specs.Option.{option_to_list}
use Rattle.nbd_codec.specs.declared.constants.TheConstants.{MAX_IN_FLIGHT}
use Rattle.nbd_session.specs.declared.phase.Phase.{Phase}
use Rattle.nbd_session.specs.declared.phase.Phase.TheVariants.{Greeted, Negotiating, Skipping, Transmitting, Leaving, Over}
use Rattle.nbd_session.specs.Demand.{Asked}
use Rattle.nbd_session.specs.Session.{State, Course, IsDone, Settles, after_any, after_progress, is_free, limit_in_flight, more_in_flight, play, step, used_from, left_to_use}
use Rattle.nbd_session.specs.Progress.{Progress, is_over, phase_after, progress_in}

-- fewer requests are in flight than may be, or not
pub free_below : (in_flight : ℕ) → in_flight < MAX_IN_FLIGHT → is_free limit_in_flight in_flight ≡ true
free_below in_flight less = lt-ltb in_flight MAX_IN_FLIGHT less

pub full_from : (in_flight : ℕ) → MAX_IN_FLIGHT ≤ in_flight → is_free limit_in_flight in_flight ≡ false
full_from in_flight full = le-ltb in_flight MAX_IN_FLIGHT full

-- once the session is over no step comes
pub over_progress : (c : Course) (phase : Phase) → is_over phase ≡ true → progress_in c.session.export phase c.session.kept ≡ None
unfolding progress_in
over_progress c Greeted over = absurd cc
over_progress c (Negotiating no_zeroes) over = absurd cc
over_progress c (Skipping no_zeroes option left) over = absurd cc
over_progress c Transmitting over = absurd cc
over_progress c Leaving over = refl
over_progress c Over over = refl

module _ (limit : Option ℕ) where
  -- one step more
  pub play_more : (n : ℕ) (c : Course) {d e : Course} → play limit n c ≡ d → step limit d ≡ e → play limit (suc n) c ≡ e
  play_more zero c there one = ap (step limit) there ∙ one
  play_more (suc n) c there one = play_more n (step limit c) there one

  -- at the limit no step comes
  pub limited : (c : Course) → is_free limit c.session.in_flight ≡ false → step limit c ≡ c
  unfolding step
  limited c full = cond-false (is_free limit c.session.in_flight) (after_any c (progress_in c.session.export c.session.phase c.session.kept)) c full

  -- the step that comes
  pub progresses : (c : Course) (progress : Option Progress) → is_free limit c.session.in_flight ≡ true → progress_in c.session.export c.session.phase c.session.kept ≡ progress → step limit c ≡ after_any c progress
  unfolding step
  progresses c progress free is = cond-true (is_free limit c.session.in_flight) (after_any c (progress_in c.session.export c.session.phase c.session.kept)) c free ∙ ap (after_any c) is

  -- a session that is over stays
  pub over_stays : (c : Course) → is_over c.session.phase ≡ true → step limit c ≡ c
  over_stays c over =
      elim (cases_Bool (is_free limit c.session.in_flight)) [
        | inl free ↦ progresses c None free (over_progress c c.session.phase over)
        | inr full ↦ limited c full
      ]

  -- where no step comes, the course stays
  pub done_stays : (c : Course) → IsDone limit c → step limit c ≡ c
  done_stays c (inl full) = limited c full
  done_stays c (inr none) = elim (cases_Bool (is_free limit c.session.in_flight)) [ inl free ↦ progresses c None free none | inr full ↦ limited c full ]

pub is_over-phase_after : (phase : Phase) (in_flight : ℕ) → is_over (phase_after phase in_flight) ≡ is_over phase
is_over-phase_after Greeted in_flight = refl
is_over-phase_after (Negotiating no_zeroes) in_flight = refl
is_over-phase_after (Skipping no_zeroes option left) in_flight = refl
is_over-phase_after Transmitting in_flight = refl
is_over-phase_after Leaving in_flight = grind (arith, nat_tests)
is_over-phase_after Over in_flight = refl

-- the session after a step, with its input as it was
abbrev pub progressed : State → ℕ → Progress → State
progressed s owed progress = record s { phase = phase_after progress.phase owed; output = s.output ++ progress.output }

-- one more is in flight, if something more is asked
one_more : (owed : ℕ) (made : List Asked) (asked : Option Asked) → more_in_flight (owed + length made) asked ≡ owed + length (made ++ option_to_list asked)
one_more owed made None = omega (arith, length-append made [])
one_more owed made (Some asked) = omega (arith, length-append made (asked ∷ []))

module _ (s : State) (used : ℕ) (made : List Asked) (progress : Progress) (free : s.in_flight + length made < MAX_IN_FLIGHT) (is : progress_in s.export s.phase (drop used s.kept) ≡ Some progress) where
  abbrev next_state : State
  next_state = progressed s (s.in_flight + length made) progress

  next : step limit_in_flight (used_from s used made) ≡ after_progress (used_from s used made) progress
  next = progresses limit_in_flight (used_from s used made) (Some progress) (free_below (s.in_flight + length made) free) is

  -- a step that ends the session
  pub ends : is_over progress.phase ≡ true → step limit_in_flight (used_from s used made) ≡ used_from next_state (length s.kept) made
  ends over = next ∙ cond-true (is_over progress.phase) _ _ over
      ∙ ap (λ (k : List ℕ). record { session = record next_state { in_flight = s.in_flight + length made; kept = k }; asked = made }) (sym (drop_all (length s.kept) s.kept (omega arith)))

  -- a step that doesn't
  pub goes_on : is_over progress.phase ≡ false → step limit_in_flight (used_from s used made) ≡ used_from next_state (used + progress.used) (made ++ option_to_list progress.asked)
  goes_on open_still = next ∙ cond-false (is_over progress.phase) _ _ open_still
      ∙ ap (λ (k : List ℕ). record {
        session = record next_state { in_flight = more_in_flight (s.in_flight + length made) progress.asked; kept = k };
        asked = made ++ option_to_list progress.asked;
      }) (drop-drop progress.used used s.kept)
      ∙ ap (λ (n : ℕ). record {
        session = record next_state { in_flight = n; kept = drop (used + progress.used) s.kept };
        asked = made ++ option_to_list progress.asked;
      }) (one_more s.in_flight made progress.asked)

-- there is a step in a session that isn't over
pub still_open : (c : Course) (phase : Phase) (progress : Progress) → progress_in c.session.export phase c.session.kept ≡ Some progress → is_over phase ≡ false
still_open c phase progress is = elim (cases_Bool (is_over phase)) [ inl over ↦ let none = over_progress c phase over in absurd cc | inr open_still ↦ open_still ]

-- less is left to use after it
pub less_over : (old new : State) (used count : ℕ) → is_over new.phase ≡ true → is_over old.phase ≡ false → length new.kept ≤ count → left_to_use new count < left_to_use old used
less_over old new used count over open_still all = grind (arith, nat_tests)

pub less_used : (old new : State) (used count : ℕ) → is_over new.phase ≡ is_over old.phase → length new.kept ≡ length old.kept → 0 < count → used + count ≤ length old.kept → left_to_use new (used + count) < left_to_use old used
less_used old new used count same kept some within = grind (arith, nat_tests)

-- steps that end where the session needs more, or as many requests are in flight as may be
pub settled : (n : ℕ) (c d : Course) → play limit_in_flight n c ≡ d → IsDone limit_in_flight d → Settles limit_in_flight c d
settled n c d there done = record { steps = n; there = there; done = done }

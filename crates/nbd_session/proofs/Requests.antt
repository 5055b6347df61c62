-- The requests that stand in a session's input.
use Rattle.std.proofs.Common.{◌≡◌, ℕ, ◌+◌, ◌-◌, ◌<◌, ◌≤◌, true, false, suc, Some, None, Option, List, [], ◌∷◌, ◌++◌, length, map, get_or, set, take, drop, slice_range, option_map, refl, sym, ◌∙◌, ap, subst, arith}
use Rattle.std.specs.Prelude.{All, IfSome}
use Rattle.std.specs.Option.{option_to_list}
use Rattle.std.proofs.lemmas.List.{append-nil, append_assoc, drop-drop, length-append, length-drop, length-map, length-take, map-append, map-set, take-append-drop, take-take, take_all}
use Rattle.std.proofs.Math.Seq.{drop-cons, set-append_seam}
use Rattle.std.proofs.lemmas.List.Elements.{All-append}
use Rattle.bytes.proofs.Ranges.{drop-take_less}
use Rattle.nbd_codec.specs.declared.constants.TheConstants.{MAX_IN_FLIGHT}
use Rattle.nbd_session.specs.declared.intake.Intake.{Intake}
use Rattle.nbd_session.specs.declared.wanted.Loaded.{Loaded}
use Rattle.nbd_session.specs.declared.wanted.Wanted.{Wanted}
use Rattle.nbd_session.specs.Answers.{answer_encoding}
use Rattle.nbd_session.specs.Demand.{Asked, IsAskedInside, asked_under}
use Rattle.nbd_session.specs.Intake.{IsSound, behind, loaded_view, progress_of, wanted_view}
use Rattle.nbd_session.specs.Progress.{is_over, phase_after, progress_in}
use Rattle.nbd_session.specs.Session.{Grows, State, course_of, limit_in_flight, play, step, used_from}
use Rattle.nbd_session.proofs.Courses.{ends, goes_on, play_more}
use Rattle.nbd_session.proofs.Lawfulness.{all_one}

-- a range behind the first bytes
pub range_behind : (k : ℕ) (input : List ℕ) (from to : ℕ) → slice_range (drop k input) from to ≡ slice_range input (k + from) (k + to)
range_behind k input from to =
    ap (λ (l : List ℕ). take (to - from) l) (drop-drop from k input) ∙ ap (λ n. take n (drop (k + from) input)) (omega arith)

-- a range of the buffer that the input lies in
pub range_of_buffer : (k : ℕ) (buffer : List ℕ) (from to : ℕ) → from ≤ to → drop (k + from) (take (k + to) buffer) ≡ slice_range (drop k buffer) from to
range_of_buffer k buffer from to ordered =
    drop-take_less buffer (k + from) (k + to) (omega arith) ∙ sym (range_behind k buffer from to)

-- what a request asks stays where more bytes stand before its input
pub wanted_behind : (k : ℕ) (input : List ℕ) (w : Wanted) → wanted_view (drop k input) w ≡ wanted_view input (behind k w)
wanted_behind k input w = ap (asked_under w.cookie w.ask) (range_behind k input w.start w.end)

pub sound_behind : (size k used : ℕ) (input : List ℕ) (w : Wanted) → IsSound size (drop k input) used w → IsSound size input (k + used) (behind k w)
sound_behind size k used input w sound = record {
  ordered = omega (arith, sound.ordered);
  within = omega (arith, sound.within);
  inside = subst (IsAskedInside size) (wanted_behind k input w) sound.inside;
}

-- it stays sound where more of the input is used up
pub sound_more : (size : ℕ) (input : List ℕ) (a b : ℕ) (ws : List Wanted) → a ≤ b → All (IsSound size input a) ws → All (IsSound size input b) ws
sound_more size input a b ws more all i d lt =
    let sound = all i d lt in record { ordered = sound.ordered; within = omega (arith, sound.within); inside = sound.inside }

-- the session after a step, with its input as it was
abbrev pub stepped : State → Intake → ℕ → State
stepped s intake owed = record s { phase = phase_after intake.phase owed; output = s.output ++ answer_encoding s.export intake.answer }

module _ (s : State) (used : ℕ) (ws : List Wanted) (intake : Intake) (free : s.in_flight + length ws < MAX_IN_FLIGHT)
    (found : progress_in s.export s.phase (drop used s.kept) ≡ Some (progress_of s.export (drop used s.kept) intake)) where
  abbrev made : List Asked
  made = map (wanted_view s.kept) ws

  as_many : s.in_flight + length made ≡ s.in_flight + length ws
  as_many = omega (arith, length-map ws (wanted_view s.kept))

  -- a step that ends the session
  pub step_ends : is_over intake.phase ≡ true → step limit_in_flight (used_from s used made) ≡ used_from (stepped s intake (s.in_flight + length ws)) (length s.kept) made
  step_ends over =
      ends s used made (progress_of s.export (drop used s.kept) intake) (omega (arith, as_many)) found over
      ∙ ap (λ n. used_from (stepped s intake n) (length s.kept) made) as_many

  same_asked : (wanted : Option Wanted) → option_to_list (option_map (wanted_view (drop used s.kept)) wanted) ≡ map (wanted_view s.kept) (option_to_list (option_map (behind used) wanted))
  same_asked None = refl
  same_asked (Some w) = ap (λ a. option_to_list (Some a)) (wanted_behind used s.kept w)

  -- a step that doesn't
  pub step_on : is_over intake.phase ≡ false
      → step limit_in_flight (used_from s used made) ≡ used_from (stepped s intake (s.in_flight + length ws)) (used + intake.used) (map (wanted_view s.kept) (ws ++ option_to_list (option_map (behind used) intake.wanted)))
  step_on open_still =
      goes_on s used made (progress_of s.export (drop used s.kept) intake) (omega (arith, as_many)) found open_still
      ∙ ap (λ n. used_from (stepped s intake n) (used + intake.used) (made ++ option_to_list (option_map (wanted_view (drop used s.kept)) intake.wanted))) as_many
      ∙ ap (λ (l : List Asked). used_from (stepped s intake (s.in_flight + length ws)) (used + intake.used) l)
      (ap (λ (l : List Asked). made ++ l) (same_asked intake.wanted) ∙ sym (map-append (wanted_view s.kept) ws (option_to_list (option_map (behind used) intake.wanted))))

-- requests stay sound once another is added
pub sound_added : (size k count : ℕ) (input : List ℕ) (ws : List Wanted) (wanted : Option Wanted) → All (IsSound size input k) ws → IfSome wanted (IsSound size (drop k input) count)
    → All (IsSound size input (k + count)) (ws ++ option_to_list (option_map (behind k) wanted))
sound_added size k count input ws None all one = subst (All (IsSound size input (k + count))) (sym (append-nil ws)) (sound_more size input k (k + count) ws (omega arith) all)
sound_added size k count input ws (Some w) all one =
    All-append (IsSound size input (k + count)) ws (behind k w ∷ []) (sound_more size input k (k + count) ws (omega arith) all) (all_one (IsSound size input (k + count)) (behind k w) (sound_behind size k count input w one))

-- so do their numbers fit
pub fits_behind : (size k count most : ℕ) (input : List ℕ) (wanted : Option Wanted) → IfSome wanted (IsSound size input count) → k + count < most → IfSome wanted (λ w. k + w.end < most)
fits_behind size k count most input None one less = tt
fits_behind size k count most input (Some w) one less = omega (arith, one.within)

-- ---- many steps

front_on : (a b c : List ℕ) → take (length a) b ≡ a → take (length b) c ≡ b → take (length a) c ≡ a
front_on a b c one two =
    let less : length a ≤ length b = omega (arith, length-take (length a) b, ap length one) in
    sym (take-take (length a) (length b) c less) ∙ ap (λ (l : List ℕ). take (length a) l) two ∙ one

pub grows_on : (first now later : State) → Grows first now → Grows now later → Grows first later
grows_on first now later one two = record {
  board = two.board ∙ one.board;
  id = two.id ∙ one.id;
  export = two.export ∙ one.export;
  in_flight = two.in_flight ∙ one.in_flight;
  kept = two.kept ∙ one.kept;
  output = front_on first.output now.output later.output one.output two.output;
}

pub steps_on : (first now later : State) (n used next : ℕ) (ws more : List Wanted) → Grows first now → play limit_in_flight n (course_of first) ≡ used_from now used (map (wanted_view first.kept) ws)
    → step limit_in_flight (used_from now used (map (wanted_view now.kept) ws)) ≡ used_from later next (map (wanted_view now.kept) more)
    → play limit_in_flight (suc n) (course_of first) ≡ used_from later next (map (wanted_view first.kept) more)
steps_on first now later n used next ws more grows there one =
    play_more limit_in_flight n (course_of first) there
    (subst (λ (k : List ℕ). step limit_in_flight (used_from now used (map (wanted_view k) ws)) ≡ used_from later next (map (wanted_view k) more)) grows.kept one)

pub sound_on : (first now : State) (used : ℕ) (ws : List Wanted) → Grows first now → All (IsSound now.export.size now.kept used) ws → All (IsSound first.export.size first.kept used) ws
sound_on first now used ws grows sound =
    subst (λ e. All (IsSound e.size first.kept used) ws) grows.export (subst (λ (k : List ℕ). All (IsSound now.export.size k used) ws) grows.kept sound)

-- ---- one request is handed on with the buffer, the others are copied

-- the requests before a place, the one at it, and those behind it
pub split_at : (ws : List Wanted) (place : ℕ) (d : Wanted) → place < length ws → ws ≡ take place ws ++ get_or ws place d ∷ drop (place + 1) ws
split_at ws place d less =
    let one : suc place ≡ place + 1 = omega arith in
    let next : drop (suc place) ws ≡ drop (place + 1) ws = ap (λ (n : ℕ). drop n ws) one in
    sym (take-append-drop place ws) ∙ ap (λ (l : List Wanted). take place ws ++ l) (drop-cons ws place d less ∙ ap (λ (l : List Wanted). get_or ws place d ∷ l) next)

pub bulk_in_place : (before behind : List Asked) (bulk : Asked) (place : ℕ) (first all : List Loaded) (empty one : Loaded) → length before ≡ place → map loaded_view first ≡ before → map loaded_view all ≡ map loaded_view (first ++ empty ∷ []) ++ behind
    → loaded_view one ≡ bulk → (place < length all) × (map loaded_view (set all place one) ≡ before ++ bulk ∷ behind)
bulk_in_place before behind bulk place first all empty one count first_is all_is one_is =
    let whole : map loaded_view all ≡ before ++ loaded_view empty ∷ behind =
    all_is ∙ ap (λ (l : List Asked). l ++ behind) (map-append loaded_view first (empty ∷ []) ∙ ap (λ (l : List Asked). l ++ loaded_view empty ∷ []) first_is)
    ∙ append_assoc before (loaded_view empty ∷ []) behind in (
      omega (arith, count, length-map all loaded_view, ap length whole, length-append before (loaded_view empty ∷ behind)),
      map-set loaded_view all place one ∙ ap (λ (l : List Asked). set l place (loaded_view one)) whole
          ∙ ap (λ n. set (before ++ loaded_view empty ∷ behind) n (loaded_view one)) (sym count)
          ∙ set-append_seam before (loaded_view empty) behind (loaded_view one) ∙ ap (λ a. before ++ a ∷ behind) one_is,
    )

pub split_map : {A : Type 0} (f : Wanted → A) (ws : List Wanted) (place : ℕ) (d : Wanted) → place < length ws
    → map f ws ≡ map f (take place ws) ++ f (get_or ws place d) ∷ map f (take (length ws - (place + 1)) (drop (place + 1) ws))
split_map f ws place d less =
    let all : take (length ws - (place + 1)) (drop (place + 1) ws) ≡ drop (place + 1) ws = take_all (length ws - (place + 1)) (drop (place + 1) ws) (omega (arith, length-drop (place + 1) ws)) in
    ap (map f) (split_at ws place d less) ∙ map-append f (take place ws) (get_or ws place d ∷ drop (place + 1) ws)
    ∙ ap (λ (l : List Wanted). map f (take place ws) ++ f (get_or ws place d) ∷ map f l) (sym all)

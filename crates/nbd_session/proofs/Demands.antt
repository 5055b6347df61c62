-- The demands of requests.
use Rattle.std.proofs.Common.{◌≡◌, ℕ, ◌+◌, zero, suc, List, [], ◌∷◌, ◌++◌, length, map, drop, refl, sym, ◌∙◌, ap, subst, arith}
use Rattle.std.specs.Prelude.{All}
use Rattle.std.proofs.lemmas.List.{length-map}
use Rattle.board.specs.Seats.{BoardId}
use Rattle.flush_barrier.specs.declared.session_id.SessionId.{SessionId}
use Rattle.nbd_session.specs.declared.demand.Demand.{Demand}
use Rattle.nbd_session.specs.declared.wanted.Wanted.{Wanted}
use Rattle.nbd_session.specs.Demand.{Asked, IsAskedInside, IsUnnumbered, Read, Write, Fua, Flush, asked_by, demand_of, owed_by}
use Rattle.nbd_session.specs.Intake.{IsSound, wanted_view}
use Rattle.nbd_session.specs.Session.{Feeds, Settles, State, course_of, limit_in_flight, used_from}

module _ (board : BoardId) (session : SessionId) where
  asked_one : (asked : Asked) → asked_by (demand_of board session asked) ≡ asked
  asked_one (Read cookie offset len) = refl
  asked_one (Write cookie write) = refl
  asked_one (Fua cookie write) = refl
  asked_one (Flush cookie) = refl

  pub asked_all : (asked : List Asked) → map asked_by (map (demand_of board session) asked) ≡ asked
  asked_all [] = refl
  asked_all (one ∷ asked) = ap (λ x. x ∷ map asked_by (map (demand_of board session) asked)) (asked_one one) ∙ ap (λ (l : List Asked). one ∷ l) (asked_all asked)

  -- what holds of each demand of this session, holds of all that were made so
  each_made : (P : Demand → Type 0) → ((asked : Asked) → P (demand_of board session asked)) → (asked : List Asked) → All P (map (demand_of board session) asked)
  each_made P one [] k d lt = absurd (omega arith)
  each_made P one (a ∷ asked) zero d lt = one a
  each_made P one (a ∷ asked) (suc k) d lt = each_made P one asked k d (omega arith)

  of_session : (asked : Asked) → (owed_by (demand_of board session asked)).session ≡ session
  of_session (Read cookie offset len) = refl
  of_session (Write cookie write) = refl
  of_session (Fua cookie write) = refl
  of_session (Flush cookie) = refl

  of_board : (asked : Asked) → (owed_by (demand_of board session asked)).board ≡ board
  of_board (Read cookie offset len) = refl
  of_board (Write cookie write) = refl
  of_board (Fua cookie write) = refl
  of_board (Flush cookie) = refl

  unnumbered : (asked : Asked) → IsUnnumbered (demand_of board session asked)
  unnumbered (Read cookie offset len) = tt
  unnumbered (Write cookie write) = tt
  unnumbered (Fua cookie write) = refl
  unnumbered (Flush cookie) = refl

  module _ (demands : List Demand) (made : demands ≡ map (demand_of board session) (map asked_by demands)) where
    pub all_of_session : All (λ demand. (owed_by demand).session ≡ session) demands
    all_of_session = subst (All (λ demand. (owed_by demand).session ≡ session)) (sym made) (each_made (λ demand. (owed_by demand).session ≡ session) of_session (map asked_by demands))

    pub all_of_board : All (λ demand. (owed_by demand).board ≡ board) demands
    all_of_board = subst (All (λ demand. (owed_by demand).board ≡ board)) (sym made) (each_made (λ demand. (owed_by demand).board ≡ board) of_board (map asked_by demands))

    pub all_unnumbered : All IsUnnumbered demands
    all_unnumbered = subst (All IsUnnumbered) (sym made) (each_made IsUnnumbered unnumbered (map asked_by demands))

  module _ (demands : List Demand) (asked : List Asked) (made : demands ≡ map (demand_of board session) asked) where
    pub as_asked : map asked_by demands ≡ asked
    as_asked = ap (map asked_by) made ∙ asked_all asked

    pub made_so : demands ≡ map (demand_of board session) (map asked_by demands)
    made_so = made ∙ ap (map (demand_of board session)) (sym as_asked)

-- what is sound lies inside the volume
pub sound_inside : (size used : ℕ) (input : List ℕ) (ws : List Wanted) → All (IsSound size input used) ws → All (IsAskedInside size) (map (wanted_view input) ws)
sound_inside size used input [] all k d lt = absurd (omega arith)
sound_inside size used input (w ∷ ws) all zero d lt = (all 0 w (omega arith)).inside
sound_inside size used input (w ∷ ws) all (suc k) d lt = sound_inside size used input ws (λ i e less. all (suc i) e (omega (arith, less))) k d (omega arith)

-- the range of each demand lies inside
pub all_inside : (size : ℕ) (demands : List Demand) → All (IsAskedInside size) (map asked_by demands) → All (λ demand. IsAskedInside size (asked_by demand)) demands
all_inside size [] all k d lt = absurd (omega arith)
all_inside size (one ∷ demands) all zero d lt = all 0 (asked_by one) (omega arith)
all_inside size (one ∷ demands) all (suc k) d lt = all_inside size demands (λ i e less. all (suc i) e (omega (arith, less))) k d (omega arith)

-- a piece feeds the session once the requests that were used up are demanded
pub feeds_so : (old longer mid new : State) (piece : List ℕ) (used : ℕ) (ws : List Wanted) (asked : List Asked) → longer ≡ record old { kept = old.kept ++ piece }
    → Settles limit_in_flight (course_of longer) (used_from mid used (map (wanted_view longer.kept) ws)) → new ≡ record mid { in_flight = mid.in_flight + length ws; kept = drop used mid.kept } → asked ≡ map (wanted_view longer.kept) ws
    → Feeds old piece new asked
feeds_so old longer mid new piece used ws asked longer_is settles new_is asked_is =
    let all = map (wanted_view longer.kept) ws in
    let there : used_from mid used all ≡ record { session = new; asked = asked } =
    ap (λ n. record { session = record mid { in_flight = mid.in_flight + n; kept = drop used mid.kept }; asked = all }) (length-map ws (wanted_view longer.kept))
    ∙ ap (λ s. record { session = s; asked = all }) (sym new_is) ∙ ap (λ (l : List Asked). record { session = new; asked = l }) (sym asked_is) in
    subst (λ c. Settles limit_in_flight c (record { session = new; asked = asked })) (ap course_of longer_is) (subst (λ c. Settles limit_in_flight (course_of longer) c) there settles)

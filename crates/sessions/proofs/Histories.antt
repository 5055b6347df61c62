-- How the history of a talk goes on with each of its calls: lemmas.
use Rattle.std.proofs.Common.{◌≡◌, ◌∙◌, ◌+◌, ℕ, zero, suc, Bool, true, false, List, [], ◌∷◌, ◌++◌, length, take, drop, refl, sym, ap, subst, inl, inr, append_assoc}
use Rattle.std.specs.Prelude.{Option, if◌then◌else◌}
use Rattle.std.proofs.Math.Seq.{take-append-add}
use Rattle.std.proofs.lemmas.List.{append-nil, take-append-drop}
use Rattle.board.specs.Seats.{BoardId}
use Rattle.nbd_session.specs.Lawful.{HasHistory, History, IsLawful, handed_out, replied, sent_by}
use Rattle.nbd_session.specs.Laws.{HistoriesAreLawful, OutputIsLawful, RepliesAreLawful}
use Rattle.nbd_session.specs.Progress.{is_over, phase_at_end}
use Rattle.nbd_session.specs.Replies.{WireReply, answered, is_owed}
use Rattle.nbd_session.specs.Session.{State}
use Rattle.nbd_session.specs.declared.phase.Phase.{Phase}
use Rattle.nbd_session.specs.declared.phase.Phase.TheVariants.{Greeted, Negotiating, Skipping, Transmitting, Leaving, Over}
use Rattle.sessions.specs.Talk.{Goes, HasTaken, IsCutOff, IsHistoryOf, IsLawfulOutput, IsTalk, Talking, broken_off, given_up, handed}

-- ---- the session

goes_lawful : HistoriesAreLawful → (s : State) (h : History) → Goes s h → IsLawful s.export h.fed (sent_by s h) h.asked h.replies
goes_lawful laws s h (inl stands) = laws s h stands
goes_lawful laws s h (inr (over, is_lawful)) = is_lawful

over_answered : (s : State) (h : History) (reply : WireReply) → s.phase ≡ Over → IsLawful s.export h.fed (sent_by s h) h.asked h.replies
    → Goes (answered s reply) (replied s h reply)
over_answered s h reply over is_lawful =
    let ended_one : State = record s { phase = Over } in
    let same : s ≡ ended_one = ap (λ (phase : Phase). let x : State = record s { phase = phase } in x) over in
    let there : Goes (answered ended_one reply) (replied ended_one h reply) = inr (refl, is_lawful) in
    subst (λ (x : State). Goes (answered x reply) (replied x h reply)) (sym same) there

goes_answered : RepliesAreLawful → (s : State) (h : History) (reply : WireReply) → Goes s h → Goes (answered s reply) (replied s h reply)
goes_answered laws s h reply (inl stands) = inl (laws s h reply stands)
goes_answered laws s h reply (inr (over, is_lawful)) = over_answered s h reply over is_lawful

goes_ended : HistoriesAreLawful → (s : State) (h : History) → Goes s h → Goes (record s { phase = Over; kept = [] }) h
goes_ended laws s h goes = inr (refl, goes_lawful laws s h goes)

goes_fed : (s next : State) (h later : History) → is_over s.phase ≡ false → (HasHistory s h → HasHistory next later) → Goes s h → Goes next later
goes_fed s next h later still stays (inl stands) = inl (stays stands)
goes_fed s next h later still stays (inr (over, is_lawful)) = let is : is_over s.phase ≡ true = ap is_over over in absurd cc

goes_handed : OutputIsLawful → (s : State) (h : History) → Goes s h → Goes (record s { output = [] }) (handed_out s h)
goes_handed laws s h (inl stands) = inl (laws s h stands)
goes_handed laws s h (inr (over, is_lawful)) =
    inr (over, subst (λ (l : List ℕ). IsLawful s.export h.fed l h.asked h.replies) (sym (append-nil (h.handed ++ s.output))) is_lawful)

left_goes : (s : State) (h : History) → Goes (record s { phase = Leaving }) h → Goes (record s { phase = Leaving; kept = [] }) h
left_goes s h (inl stands) = inl stands
left_goes s h (inr (over, is_lawful)) = let no : Leaving ≡ Over = over in absurd cc

at_end : HistoriesAreLawful → (phase : Phase) (s : State) (h : History) → Goes (record s { phase = phase }) h
    → Goes (record s { phase = phase_at_end phase; kept = [] }) h
at_end laws Greeted s h goes = goes_ended laws (record s { phase = Greeted }) h goes
at_end laws (Negotiating no_zeroes) s h goes = goes_ended laws (record s { phase = Negotiating no_zeroes }) h goes
at_end laws (Skipping no_zeroes option left) s h goes = goes_ended laws (record s { phase = Skipping no_zeroes option left }) h goes
at_end laws Transmitting s h goes = goes_ended laws (record s { phase = Transmitting }) h goes
at_end laws Leaving s h goes = left_goes s h goes
at_end laws Over s h goes = goes_ended laws (record s { phase = Over }) h goes

-- ---- what the client took

take_none : (n : ℕ) → take {A = ℕ} n [] ≡ []
take_none zero = refl
take_none (suc n) = refl

module _ (failed : Bool) (given more took : List ℕ) (none : failed ≡ true → more ≡ []) where
  took_all : HasTaken failed given took → HasTaken failed (given ++ more) (took ++ more)
  took_all = λ taken. elim failed as (λ b. (b ≡ true → more ≡ []) → HasTaken b given took → HasTaken b (given ++ more) (took ++ more)) [
    | false ↦ λ empty same. ap (λ l. l ++ more) same
    | true ↦ λ empty (n, same). (
      n,
      ap (λ l. took ++ l) (empty refl) ∙ append-nil took ∙ same ∙ ap (take n) (sym (append-nil given)) ∙ ap (λ l. take n (given ++ l)) (sym (empty refl)),
    )
  ] none taken

  took_part : (n : ℕ) → HasTaken failed given took → HasTaken true (given ++ more) (took ++ take n more)
  took_part n = λ taken. elim failed as (λ b. (b ≡ true → more ≡ []) → HasTaken b given took → HasTaken true (given ++ more) (took ++ take n more)) [
    | false ↦ λ empty same. (length given + n, ap (λ l. l ++ take n more) same ∙ sym (take-append-add given more n))
    | true ↦ λ empty (m, same). (
      m,
      ap (λ l. took ++ take n l) (empty refl) ∙ ap (λ l. took ++ l) (take_none n) ∙ append-nil took ∙ same ∙ ap (take m) (sym (append-nil given))
          ∙ ap (λ l. take m (given ++ l)) (sym (empty refl)),
    )
  ] none taken

-- what was written is what waited
pub written : (before after bytes given waited : List ℕ) → after ≡ before ++ bytes → bytes ≡ given → given ≡ waited → after ≡ before ++ waited
written before after bytes given waited took same is = took ∙ ap (λ l. before ++ l) (same ∙ is)

pub written_part : (n : ℕ) (before after bytes given waited : List ℕ) → after ≡ before ++ take n bytes → bytes ≡ given → given ≡ waited
    → after ≡ before ++ take n waited
written_part n before after bytes given waited took same is = took ∙ ap (λ l. before ++ take n l) (same ∙ is)

-- the client took the beginning of what was handed out
took_front : (failed : Bool) (given took : List ℕ) → HasTaken failed given took → (rest : List ℕ) × (given ≡ took ++ rest)
took_front false given took same = ([], sym same ∙ sym (append-nil took))
took_front true given took (n, same) = (drop n given, sym (take-append-drop n given) ∙ ap (λ l. l ++ drop n given) (sym same))

replied_handed : (s : State) (h : History) (reply : WireReply) → (replied s h reply).handed ≡ h.handed
replied_handed s h reply = by (is_owed s.phase s.in_flight)
  where
    by : (owed : Bool) → (if owed then record h { replies = h.replies ++ reply ∷ [] } else h).handed ≡ h.handed
    by true = refl
    by false = refl

-- ---- a talk with its history

pub history_answered : RepliesAreLawful → (t : Talking) (h : History) (reply : WireReply) → IsHistoryOf t h
    → IsHistoryOf (record t { session = answered t.session reply }) (replied t.session h reply)
history_answered laws t h reply is = record {
  goes = goes_answered laws t.session h reply is.goes;
  taken = subst (λ l. HasTaken t.failed l t.took) (sym (replied_handed t.session h reply)) is.taken;
}

pub history_given_up : HistoriesAreLawful → (t : Talking) (h : History) → IsHistoryOf t h → IsHistoryOf (given_up t) h
history_given_up laws t h is = record { goes = goes_ended laws t.session h is.goes; taken = is.taken }

pub history_at_end : HistoriesAreLawful → (t : Talking) (h : History) → IsHistoryOf t h
    → IsHistoryOf (record t { session = record t.session { phase = phase_at_end t.session.phase; kept = [] } }) h
history_at_end laws t h is = record { goes = at_end laws t.session.phase t.session h is.goes; taken = is.taken }

pub history_handed : OutputIsLawful → (t : Talking) (h : History) → (t.failed ≡ true → t.session.output ≡ []) → IsHistoryOf t h
    → IsHistoryOf (handed t) (handed_out t.session h)
history_handed laws t h none is = record {
  goes = goes_handed laws t.session h is.goes;
  taken = took_all t.failed h.handed t.session.output t.took none is.taken;
}

pub history_broken_off : HistoriesAreLawful → OutputIsLawful → (t : Talking) (h : History) (n : ℕ) → (t.failed ≡ true → t.session.output ≡ [])
    → IsHistoryOf t h → IsHistoryOf (broken_off n t) (handed_out t.session h)
history_broken_off laws outputs t h n none is = record {
  goes = goes_ended laws (record t.session { output = [] }) (handed_out t.session h) (goes_handed outputs t.session h is.goes);
  taken = took_part t.failed h.handed t.session.output t.took none n is.taken;
}

-- where nothing waits, the client has it already
pub handed_nothing : (t : Talking) → t.session.output ≡ [] → handed t ≡ record t { session = record t.session { output = [] } }
handed_nothing t none =
    ap (λ (l : List ℕ). let x : Talking = record t { session = record t.session { output = [] }; took = l } in x) (ap (λ (l : List ℕ). t.took ++ l) none ∙ append-nil t.took)

-- ---- a talk stays one

cut_off_answered : (s : State) (reply : WireReply) → IsCutOff s → IsCutOff (answered s reply)
cut_off_answered s reply is =
    let ended_one : State = record s { phase = Over } in
    let same : s ≡ ended_one = ap (λ (phase : Phase). let x : State = record s { phase = phase } in x) is.over in
    subst (λ (x : State). IsCutOff (answered x reply)) (sym same) (record { over = refl; none_waits = is.none_waits })

module _ (board : Option BoardId) (size : ℕ) (t : Talking) (is : IsTalk board size t) where
  pub talk_given_up : HistoriesAreLawful → IsTalk board size (given_up t)
  talk_given_up laws = record {
    of_board = is.of_board;
    of_size = is.of_size;
    history = is.history;
    has = history_given_up laws t is.history is.has;
    cut_off = λ failed. record { over = refl; none_waits = (is.cut_off failed).none_waits };
  }

  pub talk_at_end : HistoriesAreLawful → IsTalk board size (record t { session = record t.session { phase = phase_at_end t.session.phase; kept = [] } })
  talk_at_end laws = record {
    of_board = is.of_board;
    of_size = is.of_size;
    history = is.history;
    has = history_at_end laws t is.history is.has;
    cut_off = λ failed. let was = is.cut_off failed in record { over = ap phase_at_end was.over; none_waits = was.none_waits };
  }

  pub talk_answered : RepliesAreLawful → (reply : WireReply) → IsTalk board size (record t { session = answered t.session reply })
  talk_answered laws reply = record {
    of_board = is.of_board;
    of_size = is.of_size;
    history = replied t.session is.history reply;
    has = history_answered laws t is.history reply is.has;
    cut_off = λ failed. cut_off_answered t.session reply (is.cut_off failed);
  }

  none_waits_failed : t.failed ≡ true → t.session.output ≡ []
  none_waits_failed failed = (is.cut_off failed).none_waits

  pub talk_handed : OutputIsLawful → IsTalk board size (handed t)
  talk_handed laws = record {
    of_board = is.of_board;
    of_size = is.of_size;
    history = handed_out t.session is.history;
    has = history_handed laws t is.history none_waits_failed is.has;
    cut_off = λ failed. record { over = (is.cut_off failed).over; none_waits = refl };
  }

  pub talk_broken_off : HistoriesAreLawful → OutputIsLawful → (n : ℕ) → IsTalk board size (broken_off n t)
  talk_broken_off laws outputs n = record {
    of_board = is.of_board;
    of_size = is.of_size;
    history = handed_out t.session is.history;
    has = history_broken_off laws outputs t is.history n none_waits_failed is.has;
    cut_off = λ failed. record { over = refl; none_waits = refl };
  }

  -- what its client took is lawful
  pub talk_lawful : HistoriesAreLawful → IsLawfulOutput size t.took
  talk_lawful laws =
      let front = took_front t.failed is.history.handed t.took is.has.taken in record {
        export = t.session.export;
        of_size = is.of_size;
        history = is.history;
        rest = front.0 ++ t.session.output;
        lawful = subst (λ l. IsLawful t.session.export is.history.fed l is.history.asked is.history.replies)
            (ap (λ l. l ++ t.session.output) front.1 ∙ append_assoc t.took front.0 t.session.output) (goes_lawful laws t.session is.history is.has.goes);
      }

-- What a piece leaves, what a reply leaves, and what it comes to.
use Rattle.std.proofs.Common.{◌≡◌, inl, inr, ℕ, ◌+◌, ◌-◌, ◌<◌, ◌^◌, suc, zero, true, false, Bool, cond, nat_lt, nat_eq, Option, None, List, [], ◌∷◌, ◌++◌, length, length-append, append_assoc, refl, sym, ◌∙◌, ap, subst, arith}
use Rattle.std.proofs.lemmas.Bool.{cases_Bool, cases_lt, cond-true, cond-false, le-ltb}
use Rattle.std.proofs.lemmas.List.{append-nil}
use Rattle.nbd_codec.specs.declared.constants.TheConstants.{CLIENT_FLAGS_LEN, MAX_OPTION_DATA, OPTION_HEADER, REQUEST_HEADER}
use Rattle.nbd_codec.specs.declared.findings.Reading.{Reading}
use Rattle.nbd_codec.specs.declared.findings.Reading.TheVariants.{Value, More, Fault}
use Rattle.nbd_codec.specs.declared.handshake.ClientFlags.{ClientFlags as Flags}
use Rattle.nbd_codec.specs.ClientOption.{PlainOption, IsOption, option_in, encoding as option_encoding}
use Rattle.nbd_codec.specs.Findings.{AreBytes, IsProperPrefix}
use Rattle.nbd_codec.specs.Handshake.{AreFlags, flags_in, flags_encoding}
use Rattle.nbd_codec.specs.Laws.{IsAtMost, IsEncoded}
use Rattle.nbd_codec.specs.Reply.{PlainReply, encoding as reply_encoding}
use Rattle.nbd_codec.specs.Request.{IsRequest, PlainRequest, request_in, encoding as request_encoding}
use Rattle.nbd_session.specs.declared.answer.Export.{Export}
use Rattle.nbd_session.specs.declared.phase.Phase.{Phase}
use Rattle.nbd_session.specs.declared.phase.Phase.TheVariants.{Greeted, Negotiating, Skipping, Transmitting, Leaving, Over}
use Rattle.nbd_session.specs.Laws.{FeedsTakeAll, HistoriesAreLawful, NeedyGoOn}
use Rattle.nbd_session.specs.Lawful.{Ended, GoesOnIn, History, IsLawful, IsQuiet, NeedsMore, HasHistory, HasHistoryIn, Transmission, handed_out, most_kept, replied, sent_by}
use Rattle.nbd_session.specs.Negotiation.{Haggled, IsOver, Negotiation}
use Rattle.nbd_session.specs.Replies.{answered, is_owed}
use Rattle.nbd_session.specs.Session.{Course, State, fed, limit_in_flight, play, step}
use Rattle.nbd_session.specs.Transcript.{Left}
use Rattle.nbd_session.specs.Progress.{flags_progress, is_over, option_progress, phase_after, request_progress, skip_progress, progress_in}
use Rattle.nbd_session.proofs.Courses.{free_below}
use Rattle.nbd_session.proofs.Cuttings.{Keeps, skip_passed, skip_passing, step_keeps}
use Rattle.nbd_session.proofs.Lawfulness.{talks_came}

-- ---- it comes to lawful output

lawful_at : (phase : Phase) (s : State) (h : History) → HasHistoryIn phase s h → IsLawful s.export h.fed (sent_by s h) h.asked h.replies
lawful_at Greeted s h (fed_is, went, quiet) = inl (went, quiet.asked, quiet.replies)
lawful_at (Negotiating no_zeroes) s h (haggled, quiet) = inr (inl (no_zeroes, s.kept, haggled, quiet.asked, quiet.replies))
lawful_at (Skipping no_zeroes option left) s h (bytes, haggled, passing, quiet) = inr (inl (no_zeroes, bytes ++ s.kept, haggled, quiet.asked, quiet.replies))
lawful_at Transmitting s h talks = inr (inr (inr (s.kept, talks)))
lawful_at Leaving s h (rest, talks, ends) = inr (inr (inr (rest, talks)))
lawful_at Over s h (inl (inl (went, bad), quiet)) = inl (went, quiet.asked, quiet.replies)
lawful_at Over s h (inl (inr (inl (no_zeroes, rest, haggled, bad)), quiet)) = inr (inl (no_zeroes, rest, haggled, quiet.asked, quiet.replies))
lawful_at Over s h (inl (inr (inr (rest, last)), quiet)) = inr (inr (inl (rest, last, quiet.asked, quiet.replies)))
lawful_at Over s h (inr (inl (rest, talks, ends))) = inr (inr (inr (rest, talks)))
lawful_at Over s h (inr (inr (rest, talks, ends))) = inr (inr (inr (rest, talks)))

pub histories_are_lawful : HistoriesAreLawful
histories_are_lawful session history stands = lawful_at session.phase session history stands

-- ---- output that is handed out

module _ (s : State) (h : History) where
  handed_is : sent_by s h ≡ sent_by (record s { output = [] }) (handed_out s h)
  handed_is = sym (append-nil (h.handed ++ s.output))

  abbrev quiet_too : IsQuiet s h → IsQuiet (record s { output = [] }) (handed_out s h)
  quiet_too quiet = record { asked = quiet.asked; replies = quiet.replies; none_owed = quiet.none_owed }

  abbrev talks_too : (rest : List ℕ) → Transmission s.export h.fed (sent_by s h) h.asked h.replies rest → Transmission s.export h.fed (sent_by (record s { output = [] }) (handed_out s h)) h.asked h.replies rest
  talks_too rest talks = subst (λ (l : List ℕ). Transmission s.export h.fed l h.asked h.replies rest) handed_is talks

  handed_at : (phase : Phase) → HasHistoryIn phase s h → HasHistoryIn phase (record s { output = [] }) (handed_out s h)
  handed_at Greeted (fed_is, went, quiet) = (fed_is, sym handed_is ∙ went, quiet_too quiet)
  handed_at (Negotiating no_zeroes) (haggled, quiet) = (subst (λ (l : List ℕ). Haggled s.export no_zeroes h.fed l s.kept) handed_is haggled, quiet_too quiet)
  handed_at (Skipping no_zeroes option left) (bytes, haggled, passing, quiet) =
      (bytes, subst (λ (l : List ℕ). Haggled s.export no_zeroes h.fed l (bytes ++ s.kept)) handed_is haggled, passing, quiet_too quiet)
  handed_at Transmitting talks = talks_too s.kept talks
  handed_at Leaving (rest, talks, ends) = (rest, talks_too rest talks, ends)
  handed_at Over (inl (negotiation, quiet)) = inl (subst (λ (l : List ℕ). Negotiation s.export h.fed l IsOver) handed_is negotiation, quiet_too quiet)
  handed_at Over (inr (inl (rest, talks, ends))) = inr (inl (rest, talks_too rest talks, ends))
  handed_at Over (inr (inr (rest, talks, ends))) = inr (inr (rest, talks_too rest talks, ends))

pub stands_handed : (s : State) (h : History) → HasHistory s h → HasHistory (record s { output = [] }) (handed_out s h)
stands_handed s h stands = handed_at s h s.phase stands

-- ---- a reply to a demand

module _ (s : State) (h : History) (reply : PlainReply) where
  -- as it is where none is owed, and where one is
  abbrev with_reply : Phase → Bool → State
  with_reply phase owed = record s { phase = phase; in_flight = s.in_flight - 1; output = cond owed (s.output ++ reply_encoding reply) s.output }

  abbrev with_it : Bool → History
  with_it owed = cond owed (record h { replies = h.replies ++ reply ∷ [] }) h

  unowed : (phase : Phase) (owed : Bool) → owed ≡ false → HasHistoryIn phase (record s { phase = phase; in_flight = s.in_flight - 1 }) h → HasHistoryIn phase (with_reply phase owed) (with_it owed)
  unowed phase owed none stands = subst (λ b. HasHistoryIn phase (with_reply phase b) (with_it b)) (sym none) stands

  none_owed : s.in_flight ≡ 0 → nat_lt 0 s.in_flight ≡ false
  none_owed none = le-ltb 0 s.in_flight (omega arith)

  quiet_still : (phase : Phase) → IsQuiet s h → IsQuiet (record s { phase = phase; in_flight = s.in_flight - 1 }) h
  quiet_still phase quiet = record { asked = quiet.asked; replies = quiet.replies; none_owed = omega (arith, quiet.none_owed) }

  came : (rest : List ℕ) (owed : Bool) → Transmission s.export h.fed (sent_by s h) h.asked h.replies rest
      → Transmission s.export h.fed (h.handed ++ cond owed (s.output ++ reply_encoding reply) s.output) (with_it owed).asked (with_it owed).replies rest
  came rest false talks = talks
  came rest true talks = record {
    text = talks.text;
    out = talks.out;
    sent = talks.sent ++ reply_encoding reply;
    begun = talks.begun;
    went = sym (append_assoc h.handed s.output (reply_encoding reply)) ∙ ap (λ (l : List ℕ). l ++ reply_encoding reply) talks.went ∙ append_assoc talks.out talks.sent (reply_encoding reply);
    talks = talks_came s.export talks.text talks.sent h.asked h.replies reply rest talks.talks;
  }

  same_fed : (owed : Bool) → (with_it owed).fed ≡ h.fed
  same_fed true = refl
  same_fed false = refl

  same_handed : (owed : Bool) → (with_it owed).handed ≡ h.handed
  same_handed true = refl
  same_handed false = refl

  came_too : (phase : Phase) (rest : List ℕ) (owed : Bool) → Transmission s.export h.fed (sent_by s h) h.asked h.replies rest
      → Transmission s.export (with_it owed).fed (sent_by (with_reply phase owed) (with_it owed)) (with_it owed).asked (with_it owed).replies rest
  came_too phase rest true talks = came rest true talks
  came_too phase rest false talks = came rest false talks

  replied_at : (phase : Phase) → HasHistoryIn phase s h → HasHistoryIn (phase_after phase (s.in_flight - 1)) (with_reply (phase_after phase (s.in_flight - 1)) (is_owed phase s.in_flight)) (with_it (is_owed phase s.in_flight))
  replied_at Greeted (fed_is, went, quiet) = unowed Greeted (nat_lt 0 s.in_flight) (none_owed quiet.none_owed) (fed_is, went, quiet_still Greeted quiet)
  replied_at (Negotiating no_zeroes) (haggled, quiet) = unowed (Negotiating no_zeroes) (nat_lt 0 s.in_flight) (none_owed quiet.none_owed) (haggled, quiet_still (Negotiating no_zeroes) quiet)
  replied_at (Skipping no_zeroes option left) (bytes, haggled, passing, quiet) =
      unowed (Skipping no_zeroes option left) (nat_lt 0 s.in_flight) (none_owed quiet.none_owed) (bytes, haggled, passing, quiet_still (Skipping no_zeroes option left) quiet)
  replied_at Transmitting talks = came_too Transmitting s.kept (nat_lt 0 s.in_flight) talks
  replied_at Leaving (rest, talks, ends) =
      let owed = nat_lt 0 s.in_flight in
      let left : (phase : Phase) → Ended (with_reply phase owed) (with_it owed) Left = λ phase. (rest, came_too phase rest owed talks, ends) in
      elim (cases_Bool (nat_eq (s.in_flight - 1) 0)) [
        | inl none ↦ subst (λ phase. HasHistoryIn phase (with_reply phase owed) (with_it owed)) (sym (cond-true (nat_eq (s.in_flight - 1) 0) Over Leaving none)) (inr (inl (left Over)))
        | inr some ↦ subst (λ phase. HasHistoryIn phase (with_reply phase owed) (with_it owed)) (sym (cond-false (nat_eq (s.in_flight - 1) 0) Over Leaving some)) (left Leaving)
      ]
  replied_at Over (inl (negotiation, quiet)) = inl (negotiation, quiet_still Over quiet)
  replied_at Over (inr ended) = inr ended

pub stands_replied : (s : State) (h : History) (reply : PlainReply) → HasHistory s h → HasHistory (answered s reply) (replied s h reply)
stands_replied s h reply stands = replied_at s h reply s.phase stands

-- ---- what a piece leaves

pub play_keeps : (limit : Option ℕ) (n : ℕ) (c d : Course) → AreBytes c.session.kept → play limit n c ≡ d → Keeps c.session d.session
play_keeps limit zero c d bytes there = subst (λ x. Keeps c.session x.session) there (record { bytes = bytes; export = refl })
play_keeps limit (suc n) c d bytes there =
    let one = step_keeps limit c bytes in
    let later = play_keeps limit n (step limit c) d one.bytes there in
    record { bytes = later.bytes; export = later.export ∙ one.export }

shorter : {A : Type 0} (encoding : A → List ℕ) (Fits : A → Type 0) (most : ℕ) (bytes : List ℕ) → IsAtMost most encoding Fits → IsProperPrefix encoding Fits bytes → length bytes < most
shorter encoding Fits most bytes short front = omega (arith, short front.value front.fits, ap length front.whole, length-append bytes front.rest, front.some)

module _ (flags_encoded : IsEncoded flags_encoding AreFlags flags_in) (flags_short : IsAtMost CLIENT_FLAGS_LEN flags_encoding AreFlags)
    (options_encoded : IsEncoded option_encoding IsOption option_in) (options_short : IsAtMost (OPTION_HEADER + MAX_OPTION_DATA) option_encoding IsOption)
    (requests_encoded : (max_payload : ℕ) → max_payload < 2 ^ 32 → IsEncoded request_encoding (IsRequest max_payload) (request_in max_payload))
    (requests_short : (max_payload : ℕ) → IsAtMost (REQUEST_HEADER + max_payload) request_encoding (IsRequest max_payload)) where
  none_at : (export : Export) (phase : Phase) (kept : List ℕ) → AreBytes kept → export.max_payload < 2 ^ 32 → is_over phase ≡ false → progress_in export phase kept ≡ None → NeedsMore phase export.max_payload kept
  unfolding progress_in
  none_at export Greeted kept bytes small open_still none = go (flags_in kept) refl none
    where
      go : (reading : Reading Flags) → flags_in kept ≡ reading → flags_progress (length kept) reading ≡ None → IsProperPrefix flags_encoding AreFlags kept
      go (Value flags len) found is = absurd cc
      go More found is = flags_encoded.more kept bytes found
      go (Fault fault) found is = absurd cc
  none_at export (Negotiating no_zeroes) kept bytes small open_still none = go (option_in kept) refl none
    where
      go : (reading : Reading PlainOption) → option_in kept ≡ reading → option_progress export no_zeroes (length kept) reading ≡ None → IsProperPrefix option_encoding IsOption kept
      go (Value option len) found is = absurd cc
      go More found is = options_encoded.more kept bytes found
      go (Fault fault) found is = absurd cc
  none_at export (Skipping no_zeroes option left) kept bytes small open_still none = skipped kept none
    where
      skipped : (kept : List ℕ) → skip_progress no_zeroes option left (length kept) ≡ None → kept ≡ []
      skipped [] is = refl
      skipped (b ∷ kept) is = elim (cases_lt (length (b ∷ kept)) left) [
        | inl less ↦ let wrong = sym (skip_passing no_zeroes option left (length (b ∷ kept)) (omega arith) less) ∙ is in absurd cc
        | inr enough ↦ let wrong = sym (skip_passed no_zeroes option left (length (b ∷ kept)) (omega arith) enough) ∙ is in absurd cc
      ]
  none_at export Transmitting kept bytes small open_still none = go (request_in export.max_payload kept) refl none
    where
      go : (reading : Reading PlainRequest) → request_in export.max_payload kept ≡ reading → request_progress export (length kept) reading ≡ None → IsProperPrefix request_encoding (IsRequest export.max_payload) kept
      go (Value request len) found is = absurd cc
      go More found is = (requests_encoded export.max_payload small).more kept bytes found
      go (Fault fault) found is = absurd cc
  none_at export Leaving kept bytes small open_still none = tt
  none_at export Over kept bytes small open_still none = tt

  bounded : (phase : Phase) (max_payload : ℕ) (kept : List ℕ) → is_over phase ≡ false → NeedsMore phase max_payload kept → length kept < most_kept phase max_payload
  bounded Greeted max_payload kept open_still front = shorter flags_encoding AreFlags _ kept flags_short front
  bounded (Negotiating no_zeroes) max_payload kept open_still front = shorter option_encoding IsOption _ kept options_short front
  bounded (Skipping no_zeroes option left) max_payload kept open_still none = omega (arith, ap length none)
  bounded Transmitting max_payload kept open_still front = shorter request_encoding (IsRequest max_payload) _ kept (requests_short max_payload) front
  bounded Leaving max_payload kept open_still more = absurd cc
  bounded Over max_payload kept open_still more = absurd cc

  pub feeds_take_all : FeedsTakeAll
  feeds_take_all old new piece asked bytes small feeds open_still free =
      let keeps = play_keeps limit_in_flight feeds.steps (fed old piece) (record { session = new; asked = asked }) bytes feeds.there in
      let small_too : new.export.max_payload < 2 ^ 32 = subst (λ e. e.max_payload < 2 ^ 32) (sym keeps.export) small in
      let more : NeedsMore new.phase new.export.max_payload new.kept = elim feeds.done [
        | inl full ↦ let wrong = sym (free_below new.in_flight free) ∙ full in absurd cc
        | inr none ↦ none_at new.export new.phase new.kept keeps.bytes small_too open_still none
      ] in
      (more, bounded new.phase new.export.max_payload new.kept open_still more)

-- ---- bytes

pub bytes_both : (a b : List ℕ) → AreBytes a → AreBytes b → AreBytes (a ++ b)
bytes_both [] b left right i = right i
bytes_both (x ∷ a) b left right zero = left 0
bytes_both (x ∷ a) b left right (suc i) = bytes_both a b (λ k. left (suc k)) right i

-- ---- where a session that needs more stands

goes_on_at : (phase : Phase) (s : State) (h : History) → HasHistoryIn phase s h → NeedsMore phase s.export.max_payload s.kept → GoesOnIn phase s h
goes_on_at Greeted s h (fed_is, went, quiet) more = inl (went, subst (IsProperPrefix flags_encoding AreFlags) (sym fed_is) more)
goes_on_at (Negotiating no_zeroes) s h (haggled, quiet) more = inr (no_zeroes, s.kept, haggled, inl more)
goes_on_at (Skipping no_zeroes option left) s h (bytes, haggled, passing, quiet) more =
    inr (no_zeroes, bytes, subst (λ (l : List ℕ). Haggled s.export no_zeroes h.fed (sent_by s h) l) (ap (λ (l : List ℕ). bytes ++ l) more ∙ append-nil bytes) haggled, inr (option, left, passing))
goes_on_at Transmitting s h talks more = (s.kept, talks, more)
goes_on_at Leaving s h stands more = tt
goes_on_at Over s h stands more = tt

pub needy_go_on : NeedyGoOn
needy_go_on session history stands more = goes_on_at session.phase session history stands more

-- What a session puts out stays lawful, step by step.
use Rattle.std.proofs.Common.{◌≡◌, inl, inr, ℕ, ◌+◌, ◌-◌, ◌<◌, ◌^◌, suc, zero, true, false, Bool, nat_lt, nat_eq, cond, Option, None, List, [], ◌∷◌, ◌++◌, length, take, drop, length-append, length-take, take-append-drop, append_assoc, refl, sym, ◌∙◌, ap, subst, arith}
use Rattle.std.specs.Prelude.{All, not}
use Rattle.std.specs.List.{flat_map}
use Rattle.std.proofs.lemmas.Bool.{cases_Bool, cases_lt, cases_eq, cond-true, cond-false}
use Rattle.std.proofs.lemmas.List.{append-nil, drop_all, flat_map_more}
use Rattle.std.proofs.lemmas.List.Elements.{All-append}
use Rattle.nbd_codec.specs.declared.checks.Ask.{Ask}
use Rattle.nbd_codec.specs.declared.checks.Ask.TheVariants as asks
use Rattle.nbd_codec.specs.declared.checks.Checked.{Checked}
use Rattle.nbd_codec.specs.declared.checks.Checked.TheVariants as checks
use Rattle.nbd_codec.specs.declared.findings.Reading.{Reading}
use Rattle.nbd_codec.specs.declared.findings.Reading.TheVariants.{Value, More, Fault}
use Rattle.nbd_codec.specs.declared.handshake.ClientFlags.{ClientFlags as Flags}
use Rattle.nbd_codec.specs.declared.option_replies.OptionReply.TheVariants.{ErrTooBig}
use Rattle.nbd_codec.specs.declared.constants.TheConstants.{FLAG_FUA, FLAG_NO_HOLE}
use Rattle.nbd_codec.specs.declared.replies.NbdError.{NbdError}
use Rattle.nbd_codec.specs.declared.replies.NbdError.TheVariants.{Invalid, NoSpace}
use Rattle.nbd_codec.specs.Checked.{checked, flush_checked, zero_batch, zero_checked, has_fua, read_checked, write_checked}
use Rattle.nbd_codec.specs.ClientOption.{Asks, Malformed, PlainOption, ExportName, Abort, Lists, Info, Go, Other as OtherOption, Oversized, IsOption, option_in, encoding as option_encoding, told_of}
use Rattle.nbd_codec.specs.Findings.{AreBytes, IsImpossible, Takes}
use Rattle.nbd_codec.specs.Handshake.{AreFlags, flags_in, flags_encoding, greeting_encoding}
use Rattle.nbd_codec.specs.Laws.{IsEncoded}
use Rattle.nbd_codec.specs.OptionReply.{option_reply_encoding}
use Rattle.nbd_codec.specs.Reply.{PlainReply, Done, Refused, encoding as reply_encoding}
use Rattle.nbd_codec.specs.Request.{IsRequest, PlainRequest, Read, Write, Disc, Flush, Zero, Other, head_of, payload_of, request_in, encoding as request_encoding}
use Rattle.nbd_session.specs.declared.answer.Export.{Export}
use Rattle.nbd_session.specs.declared.phase.Phase.{Phase}
use Rattle.nbd_session.specs.declared.phase.Phase.TheVariants.{Greeted, Negotiating, Skipping, Transmitting, Leaving, Over}
use Rattle.nbd_session.specs.Answers.{answer_to}
use Rattle.nbd_session.specs.Demand.{Asked, asked_under}
use Rattle.nbd_session.specs.Lawful.{Ended, History, IsQuiet, HasHistory, HasHistoryIn, Transmission, fed_and_asked, sent_by}
use Rattle.nbd_session.specs.Negotiation.{Begins, Effect, Ends, Haggled, Haggles, HasLast, IsOver, IsPassing, IsBid, Negotiation, Bid, effect_of, passed_len, bid_answer, bid_encoding}
use Rattle.nbd_session.specs.Session.{Course, Settles, State, after_any, after_progress, fed, is_free, play, step}
use Rattle.nbd_session.specs.Transcript.{Came, EndsSo, TransmissionEvent, IsDisc, Left, Reached, BeginsWithRequests, Talks, asked_if, asked_in, own_reply, reached, replies_in, shown}
use Rattle.nbd_session.proofs.Courses.{limited, progresses}
use Rattle.nbd_session.proofs.Cuttings.{passing, skip_none, skip_passed, skip_passing, step_keeps}
use Rattle.nbd_session.specs.Progress.{checked_progress, flags_progress, is_over, option_progress, request_progress, skip_progress, option_step, progress_in}

-- ---- more input

module _ (export : Export) (text : List ℕ) where
  haggled_more : (no_zeroes : Bool) (from to rest : List ℕ) → Haggled export no_zeroes from to rest → Haggled export no_zeroes (from ++ text) to (rest ++ text)
  haggled_more no_zeroes from to rest h = record {
    options = h.options;
    each = h.each;
    came = ap (λ (l : List ℕ). l ++ text) h.came
        ∙ append_assoc (flags_encoding (record { no_zeroes = no_zeroes })) (flat_map bid_encoding h.options ++ rest) text
        ∙ ap (λ (l : List ℕ). flags_encoding (record { no_zeroes = no_zeroes }) ++ l) (append_assoc (flat_map bid_encoding h.options) rest text);
    went = h.went;
  }

  last_more : (effect : Effect) (from to rest : List ℕ) → HasLast export effect from to rest → HasLast export effect (from ++ text) to (rest ++ text)
  last_more effect from to rest h = record {
    no_zeroes = h.no_zeroes;
    out = h.out;
    last = h.last;
    is_bid = h.is_bid;
    before = subst (λ (l : List ℕ). Haggled export h.no_zeroes (from ++ text) h.out l) (append_assoc (bid_encoding h.last) rest text) (haggled_more h.no_zeroes from h.out (bid_encoding h.last ++ rest) h.before);
    went = h.went;
  }

  talks_more : (all sent : List ℕ) (asked : List Asked) (replies : List PlainReply) (rest : List ℕ) → Talks export all sent asked replies rest → Talks export (all ++ text) sent asked replies (rest ++ text)
  talks_more all sent asked replies rest h = record {
    events = h.events;
    came = record { each = h.came.each; whole = ap (λ (l : List ℕ). l ++ text) h.came.whole ∙ append_assoc (flat_map request_encoding (reached h.events)) rest text };
    went = h.went;
    asks = h.asks;
    answers = h.answers;
  }

  transmission_more : (from to : List ℕ) (asked : List Asked) (replies : List PlainReply) (rest : List ℕ) → Transmission export from to asked replies rest → Transmission export (from ++ text) to asked replies (rest ++ text)
  transmission_more from to asked replies rest h = record {
    text = h.text ++ text;
    out = h.out;
    sent = h.sent;
    begun = last_more Begins from h.out h.text h.begun;
    went = h.went;
    talks = talks_more h.text h.sent asked replies rest h.talks;
  }

-- the history once a piece more was fed
abbrev pub fed_more : History → List ℕ → History
fed_more history text = record history { fed = history.fed ++ text }

pub stands_more : (phase : Phase) (s : State) (h : History) (text : List ℕ) → is_over phase ≡ false → HasHistoryIn phase s h → HasHistoryIn phase (fed s text).session (fed_more h text)
stands_more Greeted s h text open_still (fed_is, went, quiet) =
    (ap (λ (l : List ℕ). l ++ text) fed_is, went, record { asked = quiet.asked; replies = quiet.replies; none_owed = quiet.none_owed })
stands_more (Negotiating no_zeroes) s h text open_still (haggled, quiet) =
    (haggled_more s.export text no_zeroes h.fed (sent_by s h) s.kept haggled, record { asked = quiet.asked; replies = quiet.replies; none_owed = quiet.none_owed })
stands_more (Skipping no_zeroes option left) s h text open_still (bytes, haggled, passing, quiet) = (
  bytes,
  subst (λ (l : List ℕ). Haggled s.export no_zeroes (h.fed ++ text) (sent_by s h) l) (append_assoc bytes s.kept text) (haggled_more s.export text no_zeroes h.fed (sent_by s h) (bytes ++ s.kept) haggled),
  passing,
  record { asked = quiet.asked; replies = quiet.replies; none_owed = quiet.none_owed },
)
stands_more Transmitting s h text open_still talks = transmission_more s.export text h.fed (sent_by s h) h.asked h.replies s.kept talks
stands_more Leaving s h text open_still stands = absurd cc
stands_more Over s h text open_still stands = absurd cc

-- ---- one option more, one request more, one reply more

pub all_one : {X : Type 0} (P : X → Type 0) (x : X) → P x → All P (x ∷ [])
all_one P x holds zero d lt = holds
all_one P x holds (suc k) d lt = absurd (omega arith)

pub haggled_bid : (export : Export) (no_zeroes : Bool) (from to rest : List ℕ) (bid : Bid) → Haggled export no_zeroes from to (bid_encoding bid ++ rest) → IsBid Haggles bid
    → Haggled export no_zeroes from (to ++ bid_answer export no_zeroes bid) rest
haggled_bid export no_zeroes from to rest bid h is_bid = record {
  options = h.options ++ bid ∷ [];
  each = All-append (IsBid Haggles) h.options (bid ∷ []) h.each (all_one (IsBid Haggles) bid is_bid);
  came = h.came ∙ ap (λ (l : List ℕ). flags_encoding (record { no_zeroes = no_zeroes }) ++ l)
      (sym (append_assoc (flat_map bid_encoding h.options) (bid_encoding bid) rest) ∙ ap (λ (l : List ℕ). l ++ rest) (flat_map_more bid_encoding [] h.options bid));
  went = ap (λ (l : List ℕ). l ++ bid_answer export no_zeroes bid) h.went ∙ flat_map_more (bid_answer export no_zeroes) greeting_encoding h.options bid;
}

reached-more : (events : List TransmissionEvent) (request : PlainRequest) → reached (events ++ Reached request ∷ []) ≡ reached events ++ request ∷ []
reached-more [] request = refl
reached-more (Reached r ∷ events) request = ap (λ (l : List PlainRequest). r ∷ l) (reached-more events request)
reached-more (Came r ∷ events) request = reached-more events request

reached-came : (events : List TransmissionEvent) (reply : PlainReply) → reached (events ++ Came reply ∷ []) ≡ reached events
reached-came [] reply = refl
reached-came (Reached r ∷ events) reply = ap (λ (l : List PlainRequest). r ∷ l) (reached-came events reply)
reached-came (Came r ∷ events) reply = reached-came events reply

replies-more : (events : List TransmissionEvent) (reply : PlainReply) → replies_in (events ++ Came reply ∷ []) ≡ replies_in events ++ reply ∷ []
replies-more [] reply = refl
replies-more (Reached r ∷ events) reply = replies-more events reply
replies-more (Came r ∷ events) reply = ap (λ (l : List PlainReply). r ∷ l) (replies-more events reply)

replies-reached : (events : List TransmissionEvent) (request : PlainRequest) → replies_in (events ++ Reached request ∷ []) ≡ replies_in events
replies-reached [] request = refl
replies-reached (Reached r ∷ events) request = replies-reached events request
replies-reached (Came r ∷ events) request = ap (λ (l : List PlainReply). r ∷ l) (replies-reached events request)

module _ (export : Export) (text sent : List ℕ) (asked : List Asked) (replies : List PlainReply) where
  -- the requests that a text begins with, and one more
  reaches_more : (requests : List PlainRequest) (request : PlainRequest) (rest : List ℕ) → BeginsWithRequests export.max_payload text requests (request_encoding request ++ rest) → IsRequest export.max_payload request → (IsDisc request → ⊥)
      → BeginsWithRequests export.max_payload text (requests ++ request ∷ []) rest
  reaches_more requests request rest h fits no_disc = record {
    each = All-append (λ r. IsRequest export.max_payload r × (IsDisc r → ⊥)) requests (request ∷ []) h.each (all_one (λ r. IsRequest export.max_payload r × (IsDisc r → ⊥)) request (fits, no_disc));
    whole = h.whole ∙ sym (append_assoc (flat_map request_encoding requests) (request_encoding request) rest) ∙ ap (λ (l : List ℕ). l ++ rest) (flat_map_more request_encoding [] requests request);
  }

  pub talks_reached : (request : PlainRequest) (rest : List ℕ) → Talks export text sent asked replies (request_encoding request ++ rest) → IsRequest export.max_payload request → (IsDisc request → ⊥)
      → Talks export text (sent ++ shown export (Reached request)) (asked ++ asked_in export (Reached request)) replies rest
  talks_reached request rest h fits no_disc = record {
    events = h.events ++ Reached request ∷ [];
    came = subst (λ l. BeginsWithRequests export.max_payload text l rest) (sym (reached-more h.events request)) (reaches_more (reached h.events) request rest h.came fits no_disc);
    went = ap (λ (l : List ℕ). l ++ shown export (Reached request)) h.went ∙ flat_map_more (shown export) [] h.events (Reached request);
    asks = ap (λ (l : List Asked). l ++ asked_in export (Reached request)) h.asks ∙ flat_map_more (asked_in export) [] h.events (Reached request);
    answers = h.answers ∙ sym (replies-reached h.events request);
  }

  pub talks_came : (reply : PlainReply) (rest : List ℕ) → Talks export text sent asked replies rest → Talks export text (sent ++ shown export (Came reply)) asked (replies ++ reply ∷ []) rest
  talks_came reply rest h = record {
    events = h.events ++ Came reply ∷ [];
    came = subst (λ l. BeginsWithRequests export.max_payload text l rest) (sym (reached-came h.events reply)) h.came;
    went = ap (λ (l : List ℕ). l ++ shown export (Came reply)) h.went ∙ flat_map_more (shown export) [] h.events (Came reply);
    asks = h.asks ∙ sym (append-nil _) ∙ ap (λ (l : List Asked). l) (flat_map_more (asked_in export) [] h.events (Came reply));
    answers = ap (λ (l : List PlainReply). l ++ reply ∷ []) h.answers ∙ sym (replies-more h.events reply);
  }

-- ---- what the tests of requests say of a DISC

not_left : (b : Bool) (x y : Checked) → (x ≡ checks.Disconnect → ⊥) → (y ≡ checks.Disconnect → ⊥) → cond b x y ≡ checks.Disconnect → ⊥
not_left true x y no_x no_y = no_x
not_left false x y no_x no_y = no_y

refused_stays : (error : NbdError) → checks.Refused error ≡ checks.Disconnect → ⊥
refused_stays error is = absurd cc

done_stays : checks.Done ≡ checks.Disconnect → ⊥
done_stays is = absurd cc

volume_stays : (ask : Ask) → checks.Volume ask ≡ checks.Disconnect → ⊥
volume_stays ask is = absurd cc

read_stays : (flags offset len size max_payload : ℕ) → read_checked flags offset len size max_payload ≡ checks.Disconnect → ⊥
read_stays flags offset len size max_payload =
    not_left (nat_lt FLAG_FUA flags) _ _ (refused_stays Invalid)
    (not_left (nat_lt max_payload len) _ _ (refused_stays Invalid)
    (not_left (nat_lt size (offset + len)) _ _ (refused_stays Invalid) (not_left (nat_eq len 0) _ _ done_stays (volume_stays (asks.Read offset len)))))

write_stays : (flags offset len size : ℕ) → write_checked flags offset len size ≡ checks.Disconnect → ⊥
write_stays flags offset len size =
    not_left (nat_lt FLAG_FUA flags) _ _ (refused_stays Invalid)
    (not_left (nat_lt size (offset + len)) _ _ (refused_stays NoSpace) (not_left (nat_eq len 0) _ _ done_stays (volume_stays (asks.Write offset len (has_fua flags)))))

flush_stays : (flags offset len : ℕ) → flush_checked flags offset len ≡ checks.Disconnect → ⊥
flush_stays flags offset len =
    not_left (nat_lt FLAG_FUA flags) _ _ (refused_stays Invalid) (not_left _ _ _ (refused_stays Invalid) (volume_stays asks.Flush))

zero_stays : (flags offset len size area : ℕ) → zero_checked flags offset len size area ≡ checks.Disconnect → ⊥
zero_stays flags offset len size area =
    not_left (nat_lt (FLAG_FUA + FLAG_NO_HOLE) flags) _ _ (refused_stays Invalid)
    (not_left (nat_lt size (offset + len)) _ _ (refused_stays NoSpace)
    (not_left (nat_lt area (zero_batch offset len)) _ _ (refused_stays Invalid) (not_left (nat_eq len 0) _ _ done_stays (volume_stays (asks.Zero offset len (has_fua flags))))))

is_disc : (size max_payload area : ℕ) (request : PlainRequest) → checked size max_payload area request ≡ checks.Disconnect → IsDisc request
is_disc size max_payload area (Read flags cookie offset len) is = absurd (read_stays flags offset len size max_payload is)
is_disc size max_payload area (Write flags cookie offset payload) is = absurd (write_stays flags offset (length payload) size is)
is_disc size max_payload area (Disc flags cookie offset len) is = tt
is_disc size max_payload area (Flush flags cookie offset len) is = absurd (flush_stays flags offset len is)
is_disc size max_payload area (Zero flags cookie offset len) is = absurd (zero_stays flags offset len size area is)
is_disc size max_payload area (Other kind flags cookie offset len) is = absurd (refused_stays Invalid is)

no_disc : (size max_payload area : ℕ) (request : PlainRequest) → (checked size max_payload area request ≡ checks.Disconnect → ⊥) → IsDisc request → ⊥
no_disc size max_payload area (Read flags cookie offset len) not_disc disc = disc
no_disc size max_payload area (Write flags cookie offset payload) not_disc disc = disc
no_disc size max_payload area (Disc flags cookie offset len) not_disc disc = not_disc refl
no_disc size max_payload area (Flush flags cookie offset len) not_disc disc = disc
no_disc size max_payload area (Zero flags cookie offset len) not_disc disc = disc
no_disc size max_payload area (Other kind flags cookie offset len) not_disc disc = disc

-- ---- one step more

-- the course has this history behind what it has asked
abbrev pub Stood : Course → History → Type 0
Stood c h = HasHistory c.session (record h { asked = h.asked ++ c.asked })

module _ (c : Course) (h : History) where
  abbrev now : State
  now = c.session

  abbrev hist : History
  hist = record h { asked = h.asked ++ c.asked }

  abbrev to : List ℕ
  to = h.handed ++ c.session.output

  unasked : (s : State) → HasHistory s hist → HasHistory s (record h { asked = h.asked ++ (c.asked ++ []) })
  unasked s stands = subst (λ (a : List Asked). HasHistory s (record h { asked = h.asked ++ a })) (sym (append-nil c.asked)) stands

  quiet_still : (s : State) → s.in_flight ≡ now.in_flight → IsQuiet now hist → IsQuiet s hist
  quiet_still s same quiet = record { asked = quiet.asked; replies = quiet.replies; none_owed = same ∙ quiet.none_owed }

  silent : to ≡ h.handed ++ (now.output ++ [])
  silent = ap (λ (o : List ℕ). h.handed ++ o) (sym (append-nil now.output))

  said : (out : List ℕ) → to ++ out ≡ h.handed ++ (now.output ++ out)
  said out = append_assoc h.handed now.output out

  -- client flags
  at_flags : IsEncoded flags_encoding AreFlags flags_in → AreBytes now.kept → HasHistory now hist → HasHistoryIn Greeted now hist → (reading : Reading Flags) → flags_in now.kept ≡ reading → Stood (after_any c (flags_progress (length now.kept) reading)) h
  at_flags encoded bytes was (fed_is, went, quiet) (Value flags len) found =
      let takes = encoded.value now.kept flags len bytes found in
      let next : State = record now { phase = Negotiating flags.no_zeroes; kept = drop len now.kept; output = now.output ++ [] } in
      let haggled : Haggled now.export flags.no_zeroes h.fed (h.handed ++ (now.output ++ [])) (drop len now.kept) = record {
        options = [];
        each = λ k d lt. absurd (omega arith);
        came = fed_is ∙ takes.whole;
        went = sym silent ∙ went ∙ sym (append-nil greeting_encoding);
      } in
      unasked next (haggled, quiet_still next refl quiet)
  at_flags encoded bytes was stands More found = was
  at_flags encoded bytes was (fed_is, went, quiet) (Fault fault) found =
      let next : State = record now { phase = Over; kept = []; output = now.output ++ [] } in
      let negotiation : Negotiation now.export h.fed (h.handed ++ (now.output ++ [])) IsOver =
      inl (sym silent ∙ went, subst (λ (l : List ℕ). IsImpossible flags_encoding AreFlags l) (sym fed_is) (encoded.fault now.kept fault bytes found)) in
      let stands : HasHistory next hist = inl (negotiation, quiet_still next refl quiet) in
      stands

  -- an option
  module _ (no_zeroes : Bool) (haggled : Haggled now.export no_zeroes h.fed to now.kept) (quiet : IsQuiet now hist) (option : PlainOption) (len : ℕ) (takes : Takes option_encoding IsOption now.kept option len) (alone : passed_len option ≡ 0) where
    abbrev bid : Bid
    bid = record { option = option; passed = [] }

    abbrev answer : List ℕ
    answer = answer_to now.export no_zeroes option

    abbrev next : Phase → List ℕ → State
    next phase kept = record now { phase = phase; kept = kept; output = now.output ++ answer }

    is_bid : (effect : Effect) → effect_of option ≡ effect → IsBid effect bid
    is_bid effect does = record { option = takes.fits; passed = sym alone; does = does }

    before : Haggled now.export no_zeroes h.fed to (bid_encoding bid ++ drop len now.kept)
    before = subst (λ (l : List ℕ). Haggled now.export no_zeroes h.fed to l) (takes.whole ∙ ap (λ (l : List ℕ). l ++ drop len now.kept) (sym (append-nil (option_encoding option)))) haggled

    last_one : (effect : Effect) → effect_of option ≡ effect → HasLast now.export effect h.fed (h.handed ++ (now.output ++ answer)) (drop len now.kept)
    last_one effect does = record { no_zeroes = no_zeroes; out = to; last = bid; is_bid = is_bid effect does; before = before; went = sym (said answer) }

    goes_on : effect_of option ≡ Haggles → HasHistory (next (Negotiating no_zeroes) (drop len now.kept)) hist
    goes_on does = (
      subst (λ (l : List ℕ). Haggled now.export no_zeroes h.fed l (drop len now.kept)) (said answer) (haggled_bid now.export no_zeroes h.fed to (drop len now.kept) bid before (is_bid Haggles does)),
      quiet_still (next (Negotiating no_zeroes) (drop len now.kept)) refl quiet,
    )

    begins : effect_of option ≡ Begins → HasHistory (next Transmitting (drop len now.kept)) hist
    begins does = record {
      text = drop len now.kept;
      out = h.handed ++ (now.output ++ answer);
      sent = [];
      begun = last_one Begins does;
      went = sym (append-nil (h.handed ++ (now.output ++ answer)));
      talks = record {
        events = [];
        came = record { each = λ k d lt. absurd (omega arith); whole = refl };
        went = refl;
        asks = quiet.asked;
        answers = quiet.replies;
      };
    }

    ends : effect_of option ≡ Ends → HasHistory (next Over []) hist
    ends does = inl (inr (inr (drop len now.kept, last_one Ends does)), quiet_still (next Over []) refl quiet)

  -- the answers to options that are whole
  abbrev after_option : Bool → PlainOption → ℕ → Phase → Course
  after_option no_zeroes option len phase = after_progress c (record { phase = phase; used = len; output = answer_to now.export no_zeroes option; asked = None })

  module _ (no_zeroes : Bool) (stands : HasHistoryIn (Negotiating no_zeroes) now hist) (option : PlainOption) (len : ℕ) (takes : Takes option_encoding IsOption now.kept option len) where
    does_haggle : passed_len option ≡ 0 → effect_of option ≡ Haggles → Stood (after_option no_zeroes option len (Negotiating no_zeroes)) h
    does_haggle alone does = unasked (next no_zeroes stands.0 stands.1 option len takes alone (Negotiating no_zeroes) (drop len now.kept)) (goes_on no_zeroes stands.0 stands.1 option len takes alone does)

    does_begin : passed_len option ≡ 0 → effect_of option ≡ Begins → Stood (after_option no_zeroes option len Transmitting) h
    does_begin alone does = unasked (next no_zeroes stands.0 stands.1 option len takes alone Transmitting (drop len now.kept)) (begins no_zeroes stands.0 stands.1 option len takes alone does)

    does_end : passed_len option ≡ 0 → effect_of option ≡ Ends → Stood (after_option no_zeroes option len Over) h
    does_end alone does = ends no_zeroes stands.0 stands.1 option len takes alone does

  option_of : (no_zeroes : Bool) → HasHistoryIn (Negotiating no_zeroes) now hist → (option : PlainOption) (len : ℕ) → Takes option_encoding IsOption now.kept option len
      → Stood (after_progress c (option_step now.export no_zeroes (told_of option) len)) h
  option_of no_zeroes stands ExportName len takes = does_begin no_zeroes stands ExportName len takes refl refl
  option_of no_zeroes stands (Abort bytes) len takes = does_end no_zeroes stands (Abort bytes) len takes refl refl
  option_of no_zeroes stands (Lists bytes) len takes = does_haggle no_zeroes stands (Lists bytes) len takes refl refl
  option_of no_zeroes stands (Info info) len takes = does_haggle no_zeroes stands (Info info) len takes refl refl
  option_of no_zeroes stands (Go (Asks name types)) len takes = elim (cases_Bool (nat_eq (length name) 0)) [
    | inl empty ↦
        subst (λ phase. Stood (after_option no_zeroes (Go (Asks name types)) len phase) h) (sym (cond-false (not (nat_eq (length name) 0)) (Negotiating no_zeroes) Transmitting (ap not empty)))
        (does_begin no_zeroes stands (Go (Asks name types)) len takes refl (cond-true (nat_eq (length name) 0) Begins Haggles empty))
    | inr some ↦
        subst (λ phase. Stood (after_option no_zeroes (Go (Asks name types)) len phase) h) (sym (cond-true (not (nat_eq (length name) 0)) (Negotiating no_zeroes) Transmitting (ap not some)))
        (does_haggle no_zeroes stands (Go (Asks name types)) len takes refl (cond-false (nat_eq (length name) 0) Begins Haggles some))
  ]
  option_of no_zeroes stands (Go (Malformed bytes)) len takes = does_haggle no_zeroes stands (Go (Malformed bytes)) len takes refl refl
  option_of no_zeroes stands (OtherOption number bytes) len takes = does_haggle no_zeroes stands (OtherOption number bytes) len takes refl refl
  option_of no_zeroes stands (Oversized number size) len takes =
      let next_state : State = record now { phase = Skipping no_zeroes number size; kept = drop len now.kept; output = now.output ++ [] } in
      let passing : IsPassing number size (option_encoding (Oversized number size)) = record {
        len = size;
        passed = [];
        is_option = takes.fits;
        whole = sym (append-nil (option_encoding (Oversized number size)));
        more = omega arith;
        some = omega (arith, takes.fits.content.0);
      } in
      let haggled : Haggled now.export no_zeroes h.fed (h.handed ++ (now.output ++ [])) (option_encoding (Oversized number size) ++ drop len now.kept) =
      subst (λ (l : List ℕ). Haggled now.export no_zeroes h.fed l (option_encoding (Oversized number size) ++ drop len now.kept)) silent
      (subst (λ (l : List ℕ). Haggled now.export no_zeroes h.fed to l) takes.whole stands.0) in
      unasked next_state (option_encoding (Oversized number size), haggled, passing, quiet_still next_state refl stands.1)

  at_option : (no_zeroes : Bool) → IsEncoded option_encoding IsOption option_in → AreBytes now.kept → HasHistory now hist → HasHistoryIn (Negotiating no_zeroes) now hist → (reading : Reading PlainOption) → option_in now.kept ≡ reading
      → Stood (after_any c (option_progress now.export no_zeroes (length now.kept) reading)) h
  at_option no_zeroes encoded bytes was stands (Value option len) found = option_of no_zeroes stands option len (encoded.value now.kept option len bytes found)
  at_option no_zeroes encoded bytes was stands More found = was
  at_option no_zeroes encoded bytes was stands (Fault fault) found =
      let next_state : State = record now { phase = Over; kept = []; output = now.output ++ [] } in
      let haggled : Haggled now.export no_zeroes h.fed (h.handed ++ (now.output ++ [])) now.kept = subst (λ (l : List ℕ). Haggled now.export no_zeroes h.fed l now.kept) silent stands.0 in
      let over : HasHistory next_state hist = inl (inr (inl (no_zeroes, now.kept, haggled, encoded.fault now.kept fault bytes found)), quiet_still next_state refl stands.1) in
      over

  -- data that is passed over
  at_skipping : (no_zeroes : Bool) (option left : ℕ) → HasHistory now hist → HasHistoryIn (Skipping no_zeroes option left) now hist → Stood (after_any c (skip_progress no_zeroes option left (length now.kept))) h
  at_skipping no_zeroes option left was (bytes, haggled, is_passing, quiet) =
      let came = length now.kept in
      let whole_encoding = option_encoding (Oversized option is_passing.len) in
      elim (cases_eq came 0) [
        | inl none ↦ subst (λ progress. Stood (after_any c progress) h) (sym (skip_none no_zeroes option left came none)) was
        | inr some ↦ elim (cases_lt came left) [
          | inl less ↦
              let next_state : State = record now { phase = Skipping no_zeroes option (left - came); kept = drop came now.kept; output = now.output ++ [] } in
              let all : bytes ++ now.kept ≡ (bytes ++ now.kept) ++ drop came now.kept =
              sym (append-nil (bytes ++ now.kept)) ∙ ap (λ (l : List ℕ). (bytes ++ now.kept) ++ l) (sym (drop_all came now.kept (omega arith))) in
              let still_passing : IsPassing option (left - came) (bytes ++ now.kept) = record {
                len = is_passing.len;
                passed = is_passing.passed ++ now.kept;
                is_option = is_passing.is_option;
                whole = ap (λ (l : List ℕ). l ++ now.kept) is_passing.whole ∙ append_assoc whole_encoding is_passing.passed now.kept;
                more = omega (arith, is_passing.more, length-append is_passing.passed now.kept);
                some = omega arith;
              } in
              let haggled_still : Haggled now.export no_zeroes h.fed (h.handed ++ (now.output ++ [])) ((bytes ++ now.kept) ++ drop came now.kept) =
              subst (λ (l : List ℕ). Haggled now.export no_zeroes h.fed l ((bytes ++ now.kept) ++ drop came now.kept)) silent (subst (λ (l : List ℕ). Haggled now.export no_zeroes h.fed to l) all haggled) in
              subst (λ progress. Stood (after_any c progress) h) (sym (skip_passing no_zeroes option left came (omega arith) less))
              (unasked next_state (bytes ++ now.kept, haggled_still, still_passing, quiet_still next_state refl quiet))
          | inr enough ↦
              let answer : List ℕ = option_reply_encoding option ErrTooBig in
              let next_state : State = record now { phase = Negotiating no_zeroes; kept = drop left now.kept; output = now.output ++ answer } in
              let whole_one : Bid = record { option = Oversized option is_passing.len; passed = is_passing.passed ++ take left now.kept } in
              let is_whole : IsBid Haggles whole_one = record {
                option = is_passing.is_option;
                passed = omega (arith, is_passing.more, length-append is_passing.passed (take left now.kept), length-take left now.kept);
                does = refl;
              } in
              let split : bytes ++ now.kept ≡ bid_encoding whole_one ++ drop left now.kept =
              ap (λ (l : List ℕ). l ++ now.kept) is_passing.whole ∙ append_assoc whole_encoding is_passing.passed now.kept
              ∙ ap (λ (l : List ℕ). whole_encoding ++ l) (ap (λ (l : List ℕ). is_passing.passed ++ l) (sym (take-append-drop left now.kept)) ∙ sym (append_assoc is_passing.passed (take left now.kept) (drop left now.kept)))
              ∙ sym (append_assoc whole_encoding (is_passing.passed ++ take left now.kept) (drop left now.kept)) in
              let haggled_on : Haggled now.export no_zeroes h.fed (h.handed ++ (now.output ++ answer)) (drop left now.kept) =
              subst (λ (l : List ℕ). Haggled now.export no_zeroes h.fed l (drop left now.kept)) (said answer)
              (haggled_bid now.export no_zeroes h.fed to (drop left now.kept) whole_one (subst (λ (l : List ℕ). Haggled now.export no_zeroes h.fed to l) split haggled) is_whole) in
              subst (λ progress. Stood (after_any c progress) h) (sym (skip_passed no_zeroes option left came (omega arith) enough))
              (unasked next_state (haggled_on, quiet_still next_state refl quiet))
        ]
      ]

  -- a request
  module _ (stands : HasHistoryIn Transmitting now hist) where
    request_more : (request : PlainRequest) (len : ℕ) (out : List ℕ) (asks : List Asked) → Takes request_encoding (IsRequest now.export.max_payload) now.kept request len
        → (checked now.export.size now.export.max_payload now.export.area request ≡ checks.Disconnect → ⊥) → shown now.export (Reached request) ≡ out → asked_in now.export (Reached request) ≡ asks
        → Transmission now.export h.fed (h.handed ++ (now.output ++ out)) (h.asked ++ (c.asked ++ asks)) h.replies (drop len now.kept)
    request_more request len out asks takes not_disc out_is asks_is = record {
      text = stands.text;
      out = stands.out;
      sent = stands.sent ++ out;
      begun = stands.begun;
      went = sym (said out) ∙ ap (λ (l : List ℕ). l ++ out) stands.went ∙ append_assoc stands.out stands.sent out;
      talks = subst (λ (l : List Asked). Talks now.export stands.text (stands.sent ++ out) l h.replies (drop len now.kept)) (append_assoc h.asked c.asked asks)
          (subst (λ (l : List ℕ). Talks now.export stands.text (stands.sent ++ l) ((h.asked ++ c.asked) ++ asks) h.replies (drop len now.kept)) out_is
          (subst (λ (l : List Asked). Talks now.export stands.text (stands.sent ++ shown now.export (Reached request)) ((h.asked ++ c.asked) ++ l) h.replies (drop len now.kept)) asks_is
          (talks_reached now.export stands.text stands.sent (h.asked ++ c.asked) h.replies request (drop len now.kept)
          (subst (λ (l : List ℕ). Talks now.export stands.text stands.sent (h.asked ++ c.asked) h.replies l) takes.whole stands.talks) takes.fits (no_disc now.export.size now.export.max_payload now.export.area request not_disc))));
    }

    -- nothing more, whatever the session's output ends with
    request_none : Transmission now.export h.fed (h.handed ++ (now.output ++ [])) (h.asked ++ c.asked) h.replies now.kept
    request_none = subst (λ (l : List ℕ). Transmission now.export h.fed l (h.asked ++ c.asked) h.replies now.kept) silent stands

    checked_one : (request : PlainRequest) (len : ℕ) → Takes request_encoding (IsRequest now.export.max_payload) now.kept request len → (how : Checked) → checked now.export.size now.export.max_payload now.export.area request ≡ how
        → Stood (after_progress c (checked_progress request len how)) h
    checked_one request len takes (checks.Volume ask) is =
        request_more request len [] (asked_under (head_of request).cookie ask (payload_of request) ∷ []) takes (λ e. volume_stays ask (sym is ∙ e)) (ap (own_reply (head_of request).cookie) is) (ap (asked_if request) is)
    checked_one request len takes checks.Done is =
        request_more request len (reply_encoding (Done (head_of request).cookie [])) [] takes (λ e. done_stays (sym is ∙ e)) (ap (own_reply (head_of request).cookie) is) (ap (asked_if request) is)
    checked_one request len takes (checks.Refused error) is =
        request_more request len (reply_encoding (Refused (head_of request).cookie error)) [] takes (λ e. refused_stays error (sym is ∙ e)) (ap (own_reply (head_of request).cookie) is) (ap (asked_if request) is)
    checked_one request len takes checks.Disconnect is =
        let left : EndsSo now.export.max_payload now.kept Left = (request, drop len now.kept, takes.fits, is_disc now.export.size now.export.max_payload now.export.area request is, takes.whole) in
        let gone : Phase → State = λ phase. record now { phase = phase; kept = []; output = now.output ++ [] } in
        let ended : (phase : Phase) → Ended (gone phase) hist Left = λ phase. (now.kept, request_none, left) in
        elim (cases_Bool (nat_eq now.in_flight 0)) [
          | inl none ↦ subst (λ phase. HasHistoryIn phase (gone phase) hist) (sym (cond-true (nat_eq now.in_flight 0) Over Leaving none)) (inr (inl (ended Over)))
          | inr some ↦ subst (λ phase. HasHistoryIn phase (gone phase) hist) (sym (cond-false (nat_eq now.in_flight 0) Over Leaving some)) (ended Leaving)
        ]

    at_request : IsEncoded request_encoding (IsRequest now.export.max_payload) (request_in now.export.max_payload) → AreBytes now.kept → HasHistory now hist → (reading : Reading PlainRequest) → request_in now.export.max_payload now.kept ≡ reading
        → Stood (after_any c (request_progress now.export (length now.kept) reading)) h
    at_request encoded bytes was (Value request len) found =
        checked_one request len (encoded.value now.kept request len bytes found) (checked now.export.size now.export.max_payload now.export.area request) refl
    at_request encoded bytes was More found = was
    at_request encoded bytes was (Fault fault) found =
        inr (inr (now.kept, request_none, encoded.fault now.kept fault bytes found))

-- ---- pieces

module _ (flags_encoded : IsEncoded flags_encoding AreFlags flags_in) (options_encoded : IsEncoded option_encoding IsOption option_in)
    (requests_encoded : (max_payload : ℕ) → max_payload < 2 ^ 32 → IsEncoded request_encoding (IsRequest max_payload) (request_in max_payload)) (limit : Option ℕ) where
  step_stood : (c : Course) (h : History) → AreBytes c.session.kept → c.session.export.max_payload < 2 ^ 32 → Stood c h → Stood (step limit c) h
  unfolding progress_in
  step_stood c h bytes small stood =
      elim (cases_Bool (is_free limit c.session.in_flight)) [
        | inl free ↦ subst (λ x. Stood x h) (sym (progresses limit c _ free refl)) (by_phase c.session.phase refl stood)
        | inr full ↦ subst (λ x. Stood x h) (sym (limited limit c full)) stood
      ]
    where
      at : (phase : Phase) → HasHistoryIn phase c.session (record h { asked = h.asked ++ c.asked }) → Stood (after_any c (progress_in c.session.export phase c.session.kept)) h
      at Greeted stands = at_flags c h flags_encoded bytes stood stands (flags_in c.session.kept) refl
      at (Negotiating no_zeroes) stands = at_option c h no_zeroes options_encoded bytes stood stands (option_in c.session.kept) refl
      at (Skipping no_zeroes option left) stands = at_skipping c h no_zeroes option left stood stands
      at Transmitting stands = at_request c h stands (requests_encoded _ small) bytes stood (request_in c.session.export.max_payload c.session.kept) refl
      at Leaving stands = stood
      at Over stands = stood

      by_phase : (phase : Phase) → c.session.phase ≡ phase → HasHistoryIn phase c.session (record h { asked = h.asked ++ c.asked }) → Stood (after_any c (progress_in c.session.export c.session.phase c.session.kept)) h
      by_phase phase is stands = subst (λ p. Stood (after_any c (progress_in c.session.export p c.session.kept)) h) (sym is) (at phase stands)

  play_stood : (n : ℕ) (c d : Course) (h : History) → AreBytes c.session.kept → c.session.export.max_payload < 2 ^ 32 → play limit n c ≡ d → Stood c h → Stood d h
  play_stood zero c d h bytes small there stood = subst (λ x. Stood x h) there stood
  play_stood (suc n) c d h bytes small there stood =
      let keeps = step_keeps limit c bytes in
      play_stood n (step limit c) d h keeps.bytes (subst (λ e. e.max_payload < 2 ^ 32) (sym keeps.export) small) there (step_stood c h bytes small stood)

  -- so it does after any steps
  pub settles_lawfully : (old new : State) (history : History) (piece : List ℕ) (asked : List Asked) → AreBytes (old.kept ++ piece) → old.export.max_payload < 2 ^ 32 → is_over old.phase ≡ false
      → HasHistory old history → Settles limit (fed old piece) (record { session = new; asked = asked }) → HasHistory new (fed_and_asked history piece asked)
  settles_lawfully old new history piece asked bytes small open_still stands feeds =
      let more : History = fed_more history piece in
      let first : Stood (fed old piece) more =
      subst (λ (a : List Asked). HasHistory (fed old piece).session (record more { asked = a })) (sym (append-nil history.asked)) (stands_more old.phase old history piece open_still stands) in
      play_stood feeds.steps (fed old piece) (record { session = new; asked = asked }) more bytes small feeds.there first

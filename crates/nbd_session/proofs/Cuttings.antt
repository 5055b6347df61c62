-- It makes no difference how a text was cut.
use Rattle.std.proofs.Common.{◌≡◌, inl, inr, ℕ, ◌+◌, ◌-◌, ◌<◌, ◌≤◌, ◌^◌, suc, zero, true, false, Bool, nat_lt, nat_eq, Option, Some, None, List, [], ◌∷◌, ◌++◌, length, drop, length-append, append_assoc, refl, sym, ◌∙◌, ap, subst, arith}
use Rattle.std.proofs.lemmas.Bool.{cases_Bool, cases_lt, cases_eq, cond-true, cond-false, eq-eqb, ne_eqb, le-ltb, lt-ltb}
use Rattle.std.proofs.lemmas.List.{append-nil, drop-append-le, drop_all, get_or-drop}
use Rattle.std.proofs.Math.Seq.{drop-append-add}
use Rattle.std.specs.Option.{option_to_list}
use Rattle.nbd_codec.specs.declared.checks.Checked.{Checked}
use Rattle.nbd_codec.specs.declared.checks.Checked.TheVariants as checks
use Rattle.nbd_codec.specs.declared.option_replies.OptionReply.TheVariants.{ErrTooBig}
use Rattle.nbd_codec.specs.declared.findings.Reading.{Reading}
use Rattle.nbd_codec.specs.declared.findings.Reading.TheVariants.{Value, More, Fault}
use Rattle.nbd_codec.specs.declared.handshake.ClientFlags.{ClientFlags as Flags}
use Rattle.nbd_codec.specs.Checked.{checked}
use Rattle.nbd_codec.specs.ClientOption.{IsOption, PlainOption, option_in, encoding as option_encoding}
use Rattle.nbd_codec.specs.Findings.{AreBytes, Takes}
use Rattle.nbd_codec.specs.Handshake.{AreFlags, flags_in, flags_encoding}
use Rattle.nbd_codec.specs.Laws.{IsKept, IsEncoded}
use Rattle.nbd_codec.specs.OptionReply.{option_reply_encoding}
use Rattle.nbd_codec.specs.Request.{IsRequest, PlainRequest, request_in, encoding as request_encoding}
use Rattle.nbd_session.specs.declared.answer.Export.{Export}
use Rattle.nbd_session.specs.declared.phase.Phase.{Phase}
use Rattle.nbd_session.specs.declared.phase.Phase.TheVariants.{Greeted, Negotiating, Skipping, Transmitting, Leaving, Over}
use Rattle.nbd_session.specs.Demand.{Asked}
use Rattle.nbd_session.specs.Laws.{CuttingsAgree, FeedsInOneWay}
use Rattle.nbd_session.specs.Session.{Course, IsDone, Settles, State, after_progress, fed, is_free, limit_in_flight, more_in_flight, play, step}
use Rattle.nbd_session.specs.Progress.{Progress, checked_progress, flags_progress, is_over, option_progress, phase_after, request_progress, skip_progress, progress_in}
use Rattle.nbd_session.proofs.Courses.{done_stays, is_over-phase_after, limited, over_stays, progresses}

-- ---- more input

abbrev pub more : List ℕ → Course → Course
more text c = record c { session = record c.session { kept = c.session.kept ++ text } }

-- a step that is the same whatever follows the input
record Stays (export : Export) (phase : Phase) (input : List ℕ) (progress : Progress) : Type 0 where
  same : (text : List ℕ) → progress_in export phase (input ++ text) ≡ Some progress
  within : progress.used ≤ length input

used_within : {A : Type 0} (encoding : A → List ℕ) (Fits : A → Type 0) (bytes : List ℕ) (x : A) (n : ℕ) → Takes encoding Fits bytes x n → n ≤ length bytes
used_within encoding Fits bytes x n w = omega (arith, w.len, ap length w.whole, length-append (encoding x) (drop n bytes))

pub some_is : {A : Type 0} {x y : A} → Some x ≡ Some y → x ≡ y
some_is is = cc

flags_stay : (export : Export) (input : List ℕ) (progress : Progress) → IsKept flags_in → IsEncoded flags_encoding AreFlags flags_in → AreBytes input → flags_progress (length input) (flags_in input) ≡ Some progress → is_over progress.phase ≡ false → Stays export Greeted input progress
unfolding progress_in
flags_stay export input progress kept encoded bytes is open_still = go (flags_in input) refl is
  where
    go : (reading : Reading Flags) → flags_in input ≡ reading → flags_progress (length input) reading ≡ Some progress → Stays export Greeted input progress
    go (Value flags len) found is = record {
      same = λ text. ap (flags_progress (length (input ++ text))) (kept input text bytes (λ none. let wrong = sym found ∙ none in absurd cc) ∙ found) ∙ is;
      within = subst (λ n. n ≤ length input) (ap (λ t. t.used) (some_is is)) (used_within flags_encoding AreFlags input flags len (encoded.value input flags len bytes found));
    }
    go More found is = absurd cc
    go (Fault fault) found is = let over : true ≡ is_over progress.phase = ap (λ t. is_over t.phase) (some_is is) in absurd cc

option_stays : (export : Export) (no_zeroes : Bool) (input : List ℕ) (progress : Progress) → IsKept option_in → IsEncoded option_encoding IsOption option_in → AreBytes input → option_progress export no_zeroes (length input) (option_in input) ≡ Some progress → is_over progress.phase ≡ false
    → Stays export (Negotiating no_zeroes) input progress
unfolding progress_in
option_stays export no_zeroes input progress kept encoded bytes is open_still = go (option_in input) refl is
  where
    go : (reading : Reading PlainOption) → option_in input ≡ reading → option_progress export no_zeroes (length input) reading ≡ Some progress → Stays export (Negotiating no_zeroes) input progress
    go (Value option len) found is = record {
      same = λ text. ap (option_progress export no_zeroes (length (input ++ text))) (kept input text bytes (λ none. let wrong = sym found ∙ none in absurd cc) ∙ found) ∙ is;
      within = subst (λ n. n ≤ length input) (ap (λ t. t.used) (some_is is)) (used_within option_encoding IsOption input option len (encoded.value input option len bytes found));
    }
    go More found is = absurd cc
    go (Fault fault) found is = let over : true ≡ is_over progress.phase = ap (λ t. is_over t.phase) (some_is is) in absurd cc

pub checked_used : (request : PlainRequest) (len : ℕ) (how : Checked) → (checked_progress request len how).used ≡ len
checked_used request len (checks.Volume ask) = refl
checked_used request len checks.Done = refl
checked_used request len (checks.Refused error) = refl
checked_used request len checks.Disconnect = refl

request_stays : (export : Export) (input : List ℕ) (progress : Progress) → IsKept (request_in export.max_payload) → IsEncoded request_encoding (IsRequest export.max_payload) (request_in export.max_payload) → AreBytes input → request_progress export (length input) (request_in export.max_payload input) ≡ Some progress → is_over progress.phase ≡ false
    → Stays export Transmitting input progress
unfolding progress_in
request_stays export input progress kept encoded bytes is open_still = go (request_in export.max_payload input) refl is
  where
    go : (reading : Reading PlainRequest) → request_in export.max_payload input ≡ reading → request_progress export (length input) reading ≡ Some progress → Stays export Transmitting input progress
    go (Value request len) found is = record {
      same = λ text. ap (request_progress export (length (input ++ text))) (kept input text bytes (λ none. let wrong = sym found ∙ none in absurd cc) ∙ found) ∙ is;
      within = subst (λ n. n ≤ length input) (sym (checked_used request len (checked export.size export.max_payload export.area request)) ∙ ap (λ t. t.used) (some_is is)) (used_within request_encoding (IsRequest export.max_payload) input request len (encoded.value input request len bytes found));
    }
    go More found is = absurd cc
    go (Fault fault) found is = let over : true ≡ is_over progress.phase = ap (λ t. is_over t.phase) (some_is is) in absurd cc

-- the end of the data that is passed over came, or less than that
abbrev pub passed : Bool → ℕ → ℕ → Progress
passed no_zeroes option left = record { phase = Negotiating no_zeroes; used = left; output = option_reply_encoding option ErrTooBig; asked = None }

abbrev pub passing : Bool → ℕ → ℕ → ℕ → Progress
passing no_zeroes option left came = record { phase = Skipping no_zeroes option (left - came); used = came; output = []; asked = None }

pub skip_passed : (no_zeroes : Bool) (option left came : ℕ) → 0 < came → left ≤ came → skip_progress no_zeroes option left came ≡ Some (passed no_zeroes option left)
skip_passed no_zeroes option left came some enough =
    cond-false (nat_eq came 0) _ _ (ne_eqb came 0 (λ e. omega arith)) ∙ cond-false (nat_lt came left) _ _ (le-ltb came left enough)

pub skip_passing : (no_zeroes : Bool) (option left came : ℕ) → 0 < came → came < left → skip_progress no_zeroes option left came ≡ Some (passing no_zeroes option left came)
skip_passing no_zeroes option left came some less =
    cond-false (nat_eq came 0) _ _ (ne_eqb came 0 (λ e. omega arith)) ∙ cond-true (nat_lt came left) _ _ (lt-ltb came left less)

pub skip_none : (no_zeroes : Bool) (option left came : ℕ) → came ≡ 0 → skip_progress no_zeroes option left came ≡ None
skip_none no_zeroes option left came is = cond-true (nat_eq came 0) _ _ (eq-eqb came 0 is)

-- the course at another place
abbrev placed : Course → Phase → (kept output : List ℕ) → Course
placed c phase kept output = record { session = record c.session { phase = phase; kept = kept; output = output }; asked = c.asked }

-- the course after a step that doesn't end the session, with this input left
abbrev pub moved : Course → Progress → List ℕ → Course
moved c progress kept = record {
  session = record c.session {
    phase = phase_after progress.phase c.session.in_flight;
    in_flight = more_in_flight c.session.in_flight progress.asked;
    kept = kept;
    output = c.session.output ++ progress.output;
  };
  asked = c.asked ++ option_to_list progress.asked;
}

none_is_nil : (text : List ℕ) → length text ≡ 0 → text ≡ []
none_is_nil [] is = refl
none_is_nil (b ∷ text) is = absurd (omega arith)

-- the input that is left is of bytes, and the export stays
pub record Keeps (old new : State) : Type 0 where
  pub bytes : AreBytes new.kept
  pub export : new.export ≡ old.export

module _ (limit : Option ℕ) where
  -- ---- settling

  -- once no step comes, none does
  pub play_done : (n : ℕ) (c : Course) → step limit c ≡ c → play limit n c ≡ c
  play_done zero c done = refl
  play_done (suc n) c done = ap (play limit n) done ∙ play_done n c done

  one_end : (n m : ℕ) (c d e : Course) → play limit n c ≡ d → step limit d ≡ d → play limit m c ≡ e → step limit e ≡ e → d ≡ e
  one_end zero m c d e there done there_too done_too = sym there ∙ sym (play_done m c (ap (step limit) there ∙ done ∙ sym there)) ∙ there_too
  one_end (suc n) zero c d e there done there_too done_too = sym there ∙ play_done (suc n) c (ap (step limit) there_too ∙ done_too ∙ sym there_too) ∙ there_too
  one_end (suc n) (suc m) c d e there done there_too done_too = one_end n m (step limit c) d e there done there_too done_too

  -- a course settles in one way
  pub one_way : (c d e : Course) → Settles limit c d → Settles limit c e → d ≡ e
  one_way c d e one other = one_end one.steps other.steps c d e one.there (done_stays limit d one.done) other.there (done_stays limit e other.done)

  pub before : (c d : Course) → Settles limit (step limit c) d → Settles limit c d
  before c d settles = record { steps = suc settles.steps; there = settles.there; done = settles.done }

  behind_steps : (n : ℕ) (c d : Course) → play limit n c ≡ d → IsDone limit d → Settles limit (step limit c) d
  behind_steps zero c d there done = record { steps = 0; there = ap (step limit) there ∙ done_stays limit d done; done = done }
  behind_steps (suc n) c d there done = record { steps = n; there = there; done = done }

  -- courses with one next step settle alike
  joined : (c e d : Course) → step limit c ≡ step limit e → Settles limit e d → Settles limit c d
  joined c e d same settles = before c d (subst (λ x. Settles limit x d) (sym same) (behind_steps settles.steps e d settles.there settles.done))

  pub is_moved : (c : Course) (progress : Progress) → is_free limit c.session.in_flight ≡ true → progress_in c.session.export c.session.phase c.session.kept ≡ Some progress → is_over progress.phase ≡ false → step limit c ≡ moved c progress (drop progress.used c.session.kept)
  is_moved c progress free is open_still = progresses limit c (Some progress) free is ∙ cond-false (is_over progress.phase) _ _ open_still

  -- a step that stays may come before more input or after it
  stays_more : (c : Course) (progress : Progress) (text : List ℕ) → is_free limit c.session.in_flight ≡ true → progress_in c.session.export c.session.phase c.session.kept ≡ Some progress → is_over progress.phase ≡ false
      → Stays c.session.export c.session.phase c.session.kept progress → step limit (more text c) ≡ more text (step limit c)
  stays_more c progress text free is open_still stays =
      is_moved (more text c) progress free (stays.same text) open_still
      ∙ ap (moved c progress) (drop-append-le progress.used c.session.kept text stays.within)
      ∙ sym (ap (more text) (is_moved c progress free is open_still))

  -- ---- data that is passed over

  module _ (c : Course) (no_zeroes : Bool) (option left : ℕ) (phase : c.session.phase ≡ Skipping no_zeroes option left) (free : is_free limit c.session.in_flight ≡ true) where
    at_progress : (progress : Option Progress) → skip_progress no_zeroes option left (length c.session.kept) ≡ progress → progress_in c.session.export c.session.phase c.session.kept ≡ progress
    unfolding progress_in
    at_progress progress is = ap (λ p. progress_in c.session.export p c.session.kept) phase ∙ is

    step_none : length c.session.kept ≡ 0 → step limit c ≡ c
    step_none none = progresses limit c None free (at_progress None (skip_none no_zeroes option left _ none))

    step_passing : 0 < length c.session.kept → length c.session.kept < left → step limit c ≡ placed c (Skipping no_zeroes option (left - length c.session.kept)) [] c.session.output
    step_passing some less =
        let progress = passing no_zeroes option left (length c.session.kept) in
        is_moved c progress free (at_progress (Some progress) (skip_passing no_zeroes option left _ some less)) refl
        ∙ ap (moved c progress) (drop_all (length c.session.kept) c.session.kept (omega arith))
        ∙ ap (λ (o : List ℕ). record { session = record c.session { phase = progress.phase; kept = []; output = o }; asked = c.asked ++ [] }) (append-nil c.session.output)
        ∙ ap (λ (a : List Asked). record { session = record c.session { phase = progress.phase; kept = [] }; asked = a }) (append-nil c.asked)

    step_passed : 0 < length c.session.kept → left ≤ length c.session.kept
        → step limit c ≡ placed c (Negotiating no_zeroes) (drop left c.session.kept) (c.session.output ++ option_reply_encoding option ErrTooBig)
    step_passed some enough =
        let progress = passed no_zeroes option left in
        is_moved c progress free (at_progress (Some progress) (skip_passed no_zeroes option left _ some enough)) refl
        ∙ ap (λ (a : List Asked). record { session = record c.session { phase = progress.phase; kept = drop left c.session.kept; output = c.session.output ++ progress.output }; asked = a }) (append-nil c.asked)

  -- more input after a part of that data comes to what it comes to with it
  skip_more : (c : Course) (no_zeroes : Bool) (option left : ℕ) (text : List ℕ) → c.session.phase ≡ Skipping no_zeroes option left → is_free limit c.session.in_flight ≡ true
      → 0 < length c.session.kept → length c.session.kept < left → step limit (more text c) ≡ step limit (more text (step limit c))
  skip_more c no_zeroes option left text phase free some less =
      let came = length c.session.kept in
      let rest : Course = placed c (Skipping no_zeroes option (left - came)) [] c.session.output in
      let first : step limit c ≡ rest = step_passing c no_zeroes option left phase free some less in
      let both : length (c.session.kept ++ text) ≡ came + length text = length-append c.session.kept text in
      let goal : step limit (more text c) ≡ step limit (more text rest) =
      elim (cases_eq (length text) 0) [
        | inl none ↦
            let nil = none_is_nil text none in
            ap (λ (t : List ℕ). step limit (more t c)) nil ∙ ap (λ (k : List ℕ). step limit (record c { session = record c.session { kept = k } })) (append-nil c.session.kept)
            ∙ first ∙ sym (step_none rest no_zeroes option (left - came) refl free refl) ∙ sym (ap (λ (t : List ℕ). step limit (more t rest)) nil)
        | inr text_some ↦ elim (cases_lt (came + length text) left) [
          | inl still_less ↦
              step_passing (more text c) no_zeroes option left phase free (omega arith) (omega arith)
              ∙ ap (λ n. placed c (Skipping no_zeroes option n) [] c.session.output) (omega arith)
              ∙ sym (step_passing (more text rest) no_zeroes option (left - came) refl free (omega arith) (omega arith))
          | inr enough ↦
              let split : left ≡ came + (left - came) = omega arith in
              step_passed (more text c) no_zeroes option left phase free (omega arith) (omega arith)
              ∙ ap (λ (k : List ℕ). placed c (Negotiating no_zeroes) k (c.session.output ++ option_reply_encoding option ErrTooBig)) (ap (λ n. drop n (c.session.kept ++ text)) split ∙ drop-append-add c.session.kept text (left - came))
              ∙ sym (step_passed (more text rest) no_zeroes option (left - came) refl free (omega arith) (omega arith))
        ]
      ] in
      goal ∙ sym (ap (λ x. step limit (more text x)) first)

  pub step_keeps : (c : Course) → AreBytes c.session.kept → Keeps c.session (step limit c).session
  step_keeps c bytes =
      elim (cases_Bool (is_free limit c.session.in_flight)) [
        | inl free ↦ go free (progress_in c.session.export c.session.phase c.session.kept) refl
        | inr full ↦ subst (λ x. Keeps c.session x.session) (sym (limited limit c full)) same
      ]
    where
      same : Keeps c.session c.session
      same = record { bytes = bytes; export = refl }

      go : is_free limit c.session.in_flight ≡ true → (progress : Option Progress) → progress_in c.session.export c.session.phase c.session.kept ≡ progress → Keeps c.session (step limit c).session
      go free None is = subst (λ x. Keeps c.session x.session) (sym (progresses limit c None free is)) same
      go free (Some progress) is = elim (cases_Bool (is_over progress.phase)) [
        | inl over ↦ subst (λ x. Keeps c.session x.session) (sym (progresses limit c (Some progress) free is ∙ cond-true (is_over progress.phase) _ _ over)) (record { bytes = λ i. omega arith; export = refl })
        | inr open_still ↦ subst (λ x. Keeps c.session x.session) (sym (is_moved c progress free is open_still))
            (record { bytes = λ i. subst (λ (x : ℕ). x < 256) (sym (get_or-drop progress.used c.session.kept i 0)) (bytes (progress.used + i)); export = refl })
      ]

  -- ---- what was asked before

  abbrev asked_before : List Asked → Course → Course
  asked_before past c = record c { asked = past ++ c.asked }

  step_asked : (past : List Asked) (c : Course) → step limit (asked_before past c) ≡ asked_before past (step limit c)
  step_asked past c =
      elim (cases_Bool (is_free limit c.session.in_flight)) [
        | inl free ↦ go free (progress_in c.session.export c.session.phase c.session.kept) refl
        | inr full ↦ limited limit (asked_before past c) full ∙ sym (ap (asked_before past) (limited limit c full))
      ]
    where
      go : is_free limit c.session.in_flight ≡ true → (progress : Option Progress) → progress_in c.session.export c.session.phase c.session.kept ≡ progress → step limit (asked_before past c) ≡ asked_before past (step limit c)
      go free None is = progresses limit (asked_before past c) None free is ∙ sym (ap (asked_before past) (progresses limit c None free is))
      go free (Some progress) is = elim (cases_Bool (is_over progress.phase)) [
        | inl over ↦
            progresses limit (asked_before past c) (Some progress) free is ∙ cond-true (is_over progress.phase) _ _ over
            ∙ sym (ap (asked_before past) (progresses limit c (Some progress) free is ∙ cond-true (is_over progress.phase) _ _ over))
        | inr open_still ↦
            is_moved (asked_before past c) progress free is open_still
            ∙ ap (λ (a : List Asked). record (moved c progress (drop progress.used c.session.kept)) { asked = a }) (append_assoc past c.asked (option_to_list progress.asked))
            ∙ sym (ap (asked_before past) (is_moved c progress free is open_still))
      ]

  play_asked : (n : ℕ) (past : List Asked) (c : Course) → play limit n (asked_before past c) ≡ asked_before past (play limit n c)
  play_asked zero past c = refl
  play_asked (suc n) past c = ap (play limit n) (step_asked past c) ∙ play_asked n past (step limit c)

  pub settles_asked : (past : List Asked) (c d : Course) → Settles limit c d → Settles limit (asked_before past c) (asked_before past d)
  settles_asked past c d settles = record {
    steps = settles.steps;
    there = play_asked settles.steps past c ∙ ap (asked_before past) settles.there;
    done = settles.done;
  }

  -- ---- pieces

  module _ (flags_kept : IsKept flags_in) (flags_encoded : IsEncoded flags_encoding AreFlags flags_in)
      (options_kept : IsKept option_in) (options_encoded : IsEncoded option_encoding IsOption option_in)
      (requests_kept : (max_payload : ℕ) → max_payload < 2 ^ 32 → IsKept (request_in max_payload))
      (requests_encoded : (max_payload : ℕ) → max_payload < 2 ^ 32 → IsEncoded request_encoding (IsRequest max_payload) (request_in max_payload)) where
    module _ (c d : Course) (text : List ℕ) (bytes : AreBytes c.session.kept) (small : c.session.export.max_payload < 2 ^ 32) (free : is_free limit c.session.in_flight ≡ true) (progress : Progress)
        (is : progress_in c.session.export c.session.phase c.session.kept ≡ Some progress) (open_still : is_over progress.phase ≡ false) (settles : Settles limit (more text (step limit c)) d) where
      with_stays : Stays c.session.export c.session.phase c.session.kept progress → Settles limit (more text c) d
      with_stays stays = before (more text c) d (subst (λ x. Settles limit x d) (sym (stays_more c progress text free is open_still stays)) settles)

      there : (phase : Phase) → c.session.phase ≡ phase → progress_in c.session.export phase c.session.kept ≡ Some progress
      there phase at = ap (λ p. progress_in c.session.export p c.session.kept) (sym at) ∙ is

      from : (phase : Phase) → c.session.phase ≡ phase → Stays c.session.export phase c.session.kept progress → Settles limit (more text c) d
      from phase at stays = with_stays (subst (λ p. Stays c.session.export p c.session.kept progress) (sym at) stays)

      by_phase : (phase : Phase) → c.session.phase ≡ phase → Settles limit (more text c) d
      unfolding progress_in
      by_phase Greeted at = from Greeted at (flags_stay c.session.export c.session.kept progress flags_kept flags_encoded bytes (there Greeted at) open_still)
      by_phase (Negotiating no_zeroes) at = from (Negotiating no_zeroes) at (option_stays c.session.export no_zeroes c.session.kept progress options_kept options_encoded bytes (there (Negotiating no_zeroes) at) open_still)
      by_phase (Skipping no_zeroes option left) at =
          let came = length c.session.kept in
          elim (cases_eq came 0) [
            | inl none ↦ let wrong = sym (there (Skipping no_zeroes option left) at) ∙ skip_none no_zeroes option left came none in absurd cc
            | inr some ↦ elim (cases_lt came left) [
              | inl less ↦ joined (more text c) (more text (step limit c)) d (skip_more c no_zeroes option left text at free (omega arith) less) settles
              | inr enough ↦
                  let one : progress ≡ passed no_zeroes option left = some_is (sym (there (Skipping no_zeroes option left) at) ∙ skip_passed no_zeroes option left came (omega arith) enough) in
                  from (Skipping no_zeroes option left) at (record {
                    same = λ t. skip_passed no_zeroes option left (length (c.session.kept ++ t)) (omega (arith, length-append c.session.kept t)) (omega (arith, length-append c.session.kept t)) ∙ ap (λ x. Some x) (sym one);
                    within = subst (λ x. x.used ≤ came) (sym one) enough;
                  })
            ]
          ]
      by_phase Transmitting at =
          from Transmitting at (request_stays c.session.export c.session.kept progress (requests_kept _ small) (requests_encoded _ small) bytes (there Transmitting at) open_still)
      by_phase Leaving at = let wrong = there Leaving at in absurd cc
      by_phase Over at = let wrong = there Over at in absurd cc

    -- more input after a step comes to what it comes to before it
    pub key : (c d : Course) (text : List ℕ) → AreBytes c.session.kept → c.session.export.max_payload < 2 ^ 32 → is_over (step limit c).session.phase ≡ false → Settles limit (more text (step limit c)) d → Settles limit (more text c) d
    key c d text bytes small open_still settles =
        elim (cases_Bool (is_free limit c.session.in_flight)) [
          | inl free ↦ go free (progress_in c.session.export c.session.phase c.session.kept) refl
          | inr full ↦ subst (λ x. Settles limit (more text x) d) (limited limit c full) settles
        ]
      where
        go : is_free limit c.session.in_flight ≡ true → (progress : Option Progress) → progress_in c.session.export c.session.phase c.session.kept ≡ progress → Settles limit (more text c) d
        go free None is = subst (λ x. Settles limit (more text x) d) (progresses limit c None free is) settles
        go free (Some progress) is = elim (cases_Bool (is_over progress.phase)) [
          | inl over ↦
              let ended : step limit c ≡ after_progress c progress = progresses limit c (Some progress) free is in
              let still : is_over (step limit c).session.phase ≡ true = ap (λ x. is_over x.session.phase) (ended ∙ cond-true (is_over progress.phase) _ _ over) ∙ is_over-phase_after progress.phase c.session.in_flight ∙ over in
              absurd cc
          | inr open_progress ↦ by_phase c d text bytes small free progress is open_progress settles c.session.phase refl
        ]

    -- and so it does after any number of steps
    pub all_steps : (n : ℕ) (c m d : Course) (text : List ℕ) → AreBytes c.session.kept → c.session.export.max_payload < 2 ^ 32 → play limit n c ≡ m → is_over m.session.phase ≡ false → Settles limit (more text m) d → Settles limit (more text c) d
    all_steps zero c m d text bytes small there open_still settles = subst (λ x. Settles limit (more text x) d) (sym there) settles
    all_steps (suc n) c m d text bytes small there open_still settles =
        let keeps = step_keeps c bytes in
        let later = all_steps n (step limit c) m d text keeps.bytes (subst (λ e. e.max_payload < 2 ^ 32) (sym keeps.export) small) there open_still settles in
        key c d text bytes small (elim (cases_Bool (is_over (step limit c).session.phase)) [
          | inl over ↦ let stays : is_over m.session.phase ≡ true = ap (λ x. is_over x.session.phase) (sym there ∙ play_done n (step limit c) (over_stays limit (step limit c) over)) ∙ over in absurd cc
          | inr still ↦ still
        ]) later

    -- two pieces, one after the other, lead where both together do
    pub pieces_join : (old mid : State) (first second : List ℕ) (asked_first : List Asked) (two : State) (asked_second : List Asked) → AreBytes (old.kept ++ first) → old.export.max_payload < 2 ^ 32
        → Settles limit (fed old first) (record { session = mid; asked = asked_first }) → is_over mid.phase ≡ false → Settles limit (fed mid second) (record { session = two; asked = asked_second })
        → Settles limit (fed old (first ++ second)) (record { session = two; asked = asked_first ++ asked_second })
    pieces_join old mid first second asked_first two asked_second bytes small feeds open_still then =
        let after : Course = record { session = mid; asked = asked_first } in
        let goal : Course = record { session = two; asked = asked_first ++ asked_second } in
        let second_steps : Settles limit (more second after) goal =
        subst (λ (a : List Asked). Settles limit (record { session = record mid { kept = mid.kept ++ second }; asked = a }) goal) (append-nil asked_first)
        (settles_asked asked_first (fed mid second) (record { session = two; asked = asked_second }) then) in
        let both : Settles limit (more second (fed old first)) goal = all_steps feeds.steps (fed old first) after goal second bytes small feeds.there open_still second_steps in
        subst (λ (k : List ℕ). Settles limit (record { session = record old { kept = k }; asked = [] }) goal) (append_assoc old.kept first second) both

pub feeds_one_way : FeedsInOneWay
feeds_one_way old piece one other asked asked_too feeds feeds_too =
    let same : record { session = one; asked = asked } ≡ record { session = other; asked = asked_too } = one_way limit_in_flight (fed old piece) _ _ feeds feeds_too in
    (ap (λ x. x.session) same, ap (λ x. x.asked) same)

module _ (flags_kept : IsKept flags_in) (flags_encoded : IsEncoded flags_encoding AreFlags flags_in)
    (options_kept : IsKept option_in) (options_encoded : IsEncoded option_encoding IsOption option_in)
    (requests_kept : (max_payload : ℕ) → max_payload < 2 ^ 32 → IsKept (request_in max_payload))
    (requests_encoded : (max_payload : ℕ) → max_payload < 2 ^ 32 → IsEncoded request_encoding (IsRequest max_payload) (request_in max_payload)) where
  pub cuttings : CuttingsAgree
  cuttings old mid two one first second asked_first asked_second asked bytes small feeds open_still then joint =
      let goal : Course = record { session = two; asked = asked_first ++ asked_second } in
      let whole = pieces_join limit_in_flight flags_kept flags_encoded options_kept options_encoded requests_kept requests_encoded old mid first second asked_first two asked_second bytes small feeds open_still then in
      let same : record { session = one; asked = asked } ≡ goal = one_way limit_in_flight (fed old (first ++ second)) _ goal joint whole in
      (ap (λ x. x.session) same, ap (λ x. x.asked) same)

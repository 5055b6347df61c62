use Rattle.std.proofs.Common.{◌≡◌, ◌+◌, ◌<◌, ◌∙◌, ◌++◌, ℕ, length, refl, subst, sym, ap, arith}
use Rattle.std.specs.Prelude.{Result, IfOk, IsErrOf, ◌↔◌}
use Rattle.home_blocks.specs.Version.{version_number}
use Rattle.home_blocks.specs.Superblock.{IsNoSuperblock, IsEncoding, Superblock, header_encoding}
use Rattle.home_blocks.specs.declared.refusal.Refusal.{Refusal}
use Rattle.home_blocks.specs.declared.refusal.Refusal.TheVariants.{NotAVolume}
use Rattle.home_blocks.proofs.Reading.{answer_exact, answer_found, answer_none, header_is, no_magic, no_version, other_version}
use Rattle.home_blocks.proofs.Encodings.{other_version_apart}
use Rattle.home_blocks.proofs.superblock.Superblock.read.Goals as goal

pub returns-in_default-clause-exact : goal.returns-in_default-clause-exact
returns-in_default-clause-exact c = λ sb encoded. absurd ((no_magic c.args.bytes.now c.in_default.ensures.cases).none sb encoded)

pub returns-in_default-clause-not_a_volume : goal.returns-in_default-clause-not_a_volume
returns-in_default-clause-not_a_volume c = (λ _. no_magic c.args.bytes.now c.in_default.ensures.cases, λ _. refl)

short_of : (behind whole : ℕ) → behind + 8 ≡ whole → behind < 4 → whole < 12
short_of behind whole longer short = omega arith

pub returns-in_default-read_u32-clause-exact : goal.returns-in_default-read_u32-clause-exact
returns-in_default-read_u32-clause-exact c = λ sb encoded.
    let (same, behind_is, longer) = c.in-Some.ensures.cases in
    absurd ((no_version c.args.bytes.now (short_of (length c.in-Some.behind.now) (length c.args.bytes.now) longer c.in_default-read_u32.ensures.short)).none sb encoded)

pub returns-in_default-read_u32-clause-not_a_volume : goal.returns-in_default-read_u32-clause-not_a_volume
returns-in_default-read_u32-clause-not_a_volume c =
    let (same, behind_is, longer) = c.in-Some.ensures.cases in
    (λ _. no_version c.args.bytes.now (short_of (length c.in-Some.behind.now) (length c.args.bytes.now) longer c.in_default-read_u32.ensures.short), λ _. refl)

pub returns-in_default-from_number-clause-exact : goal.returns-in_default-from_number-clause-exact
returns-in_default-from_number-clause-exact c = λ sb encoded.
    let (same, behind_is, longer) = c.in-Some.ensures.cases in
    let has = other_version c.args.bytes.now c.in-Some.behind.now c.in-Some-read_u32.fields.now c.in-Some-read_u32.number same behind_is c.in-Some-read_u32.ensures.read c.in-Some-read_u32.ensures.fits c.in_default-from_number.ensures.none in
    absurd (other_version_apart sb c.args.bytes.now encoded.encoded has)

pub returns-in_default-from_number-clause-other_version : goal.returns-in_default-from_number-clause-other_version
returns-in_default-from_number-clause-other_version c =
    let (same, behind_is, longer) = c.in-Some.ensures.cases in
    let has = other_version c.args.bytes.now c.in-Some.behind.now c.in-Some-read_u32.fields.now c.in-Some-read_u32.number same behind_is c.in-Some-read_u32.ensures.read c.in-Some-read_u32.ensures.fits c.in_default-from_number.ensures.none in
    (λ _. has, λ _. refl)

pub returns-in_default-from_number-clause-not_a_volume : goal.returns-in_default-from_number-clause-not_a_volume
returns-in_default-from_number-clause-not_a_volume c =
    let (same, behind_is, longer) = c.in-Some.ensures.cases in
    let has = other_version c.args.bytes.now c.in-Some.behind.now c.in-Some-read_u32.fields.now c.in-Some-read_u32.number same behind_is c.in-Some-read_u32.ensures.read c.in-Some-read_u32.ensures.fits c.in_default-from_number.ensures.none in
    (λ e. absurd (cc e), λ no. absurd (no.same has))

pub returns-clause-found : goal.returns-clause-found
returns-clause-found c =
    let fields = c.in-Some-read_u32.fields.now in
    let (same, behind_is, longer) = c.in-Some.ensures.cases in
    let is = header_is c.args.bytes.now c.in-Some.behind.now fields c.in-Some-read_u32.number same behind_is c.in-Some-read_u32.ensures.read in
    let version = c.in-Some-from_number.version in
    let begins : c.args.bytes.now ≡ header_encoding (version_number version) ++ fields = is ∙ ap (λ (n : ℕ). header_encoding n ++ fields) c.in-Some-from_number.ensures.value in
    subst (λ (r : Result Superblock Refusal). IfOk r (IsEncoding c.args.bytes.now)) (sym c.ok_or.ensures.value)
    (answer_found version c.args.bytes.now fields begins c.read_fields.result c.read_fields.ensures.version c.read_fields.ensures.found c.read_fields.ensures.is)

pub returns-clause-exact : goal.returns-clause-exact
returns-clause-exact c =
    let fields = c.in-Some-read_u32.fields.now in
    let (same, behind_is, longer) = c.in-Some.ensures.cases in
    let is = header_is c.args.bytes.now c.in-Some.behind.now fields c.in-Some-read_u32.number same behind_is c.in-Some-read_u32.ensures.read in
    let version = c.in-Some-from_number.version in
    let begins : c.args.bytes.now ≡ header_encoding (version_number version) ++ fields = is ∙ ap (λ (n : ℕ). header_encoding n ++ fields) c.in-Some-from_number.ensures.value in
    λ sb encoded. c.ok_or.ensures.value
    ∙ answer_exact version c.args.bytes.now fields begins c.read_fields.result c.read_fields.ensures.version c.read_fields.ensures.found c.read_fields.ensures.is c.read_fields.ensures.none sb encoded

pub returns-clause-not_a_volume : goal.returns-clause-not_a_volume
returns-clause-not_a_volume c =
    let fields = c.in-Some-read_u32.fields.now in
    let (same, behind_is, longer) = c.in-Some.ensures.cases in
    let is = header_is c.args.bytes.now c.in-Some.behind.now fields c.in-Some-read_u32.number same behind_is c.in-Some-read_u32.ensures.read in
    let version = c.in-Some-from_number.version in
    let begins : c.args.bytes.now ≡ header_encoding (version_number version) ++ fields = is ∙ ap (λ (n : ℕ). header_encoding n ++ fields) c.in-Some-from_number.ensures.value in
    subst (λ (r : Result Superblock Refusal). IsErrOf r NotAVolume ↔ IsNoSuperblock c.args.bytes.now) (sym c.ok_or.ensures.value)
    (answer_none version c.args.bytes.now fields begins c.read_fields.result c.read_fields.ensures.version c.read_fields.ensures.found c.read_fields.ensures.is c.read_fields.ensures.none)

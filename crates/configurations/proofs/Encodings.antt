-- No two records have one encoding, and what stands behind the beginning of one.
use Rattle.std.proofs.Common.{◌≡◌, ℕ, ◌+◌, ◌^◌, ◌<◌, ◌≤◌, true, nat_eq, List, [], ◌∷◌, ◌++◌, length, take, drop, get_or, inl, inr, refl, sym, subst, ◌∙◌, ap, arith, append_assoc, length-append, All}
use Rattle.std.specs.Prelude.{Option, Some, Result, Ok, Err, IfOk, IfSome, IsOk, OnOk, codes}
use Rattle.std.specs.Result.{result_ok}
use Rattle.std.proofs.lemmas.Bool.{cases_lt}
use Rattle.std.proofs.lemmas.Grind.{flat_map-append}
use Rattle.std.proofs.lemmas.List.{append-nil, append_cancel_left, get_or-take, get_or_past, length-take, take-append-drop, take_more}
use Rattle.std.proofs.lemmas.List.Elements.{All-head, All-tail}
use Rattle.std.specs.Cmp.Lexicographic.{pointwise, same_text}
use Rattle.std.specs.List.{flat_map}
use Rattle.byteorder.specs.Endian.{big_bytes, big_from}
use Rattle.byteorder.specs.Numbers.{big_number-reads_back, length-bytes_high_first}
use Rattle.configurations.specs.declared.member.Member.{Member}
use Rattle.configurations.specs.Record.{AreMembers, AreEncoded, HasNoHeader, HasNoMember, IsMember, IsRecord, IsEncoding, Record, header_encoding, member_encoding, record_encoding}

-- two ways to cut one list behind as many elements are one
same_halves : (a b c d : List ℕ) → length a ≡ length c → a ++ b ≡ c ++ d → b ≡ d
same_halves [] b [] d len e = e
same_halves [] b (y ∷ c) d len e = absurd (omega arith)
same_halves (x ∷ a) b [] d len e = absurd (omega arith)
same_halves (x ∷ a) b (y ∷ c) d len e =
    let tails : a ++ b ≡ c ++ d = cc in
    same_halves a b c d (omega arith) tails

-- the widths of numbers stand as variables, so that nothing computes
module _ (n : ℕ) where
  -- a number is what its bytes make
  pub numbers_apart : (x y : ℕ) (r s : List ℕ) → x < 256 ^ n → y < 256 ^ n → big_bytes n x ++ r ≡ big_bytes n y ++ s → (x ≡ y) × (r ≡ s)
  numbers_apart x y r s fits fits' e =
      let same = sym (big_number-reads_back n x r fits) ∙ ap (big_from 0 n) e ∙ big_number-reads_back n y s fits' in
      (same, same_halves (big_bytes n x) r (big_bytes n y) s (length-bytes_high_first n x ∙ sym (length-bytes_high_first n y)) e)

  abbrev text : Member → List ℕ
  text member = member.slot ∷ big_bytes n member.incarnation

  abbrev Fits : Member → Type 0
  Fits member = member.incarnation < 256 ^ n

  member_apart : (x y : Member) (r s : List ℕ) → Fits x → Fits y → text x ++ r ≡ text y ++ s → (x ≡ y) × (r ≡ s)
  member_apart x y r s fits fits' e =
      let slot_is : x.slot ≡ y.slot = cc in
      let tails : big_bytes n x.incarnation ++ r ≡ big_bytes n y.incarnation ++ s = cc in
      let rest = numbers_apart x.incarnation y.incarnation r s fits fits' tails in
      let incarnation_is = rest.0 in
      (λ i. record { slot = slot_is i; incarnation = incarnation_is i }, rest.1)

  -- the members that a list of members begins with, and those behind them
  pub record Begin (xs ys : List Member) (r : List ℕ) : Type 0 where
    pub behind : List Member
    pub is : ys ≡ xs ++ behind
    pub rest : r ≡ flat_map text behind
    pub are : All IsMember behind

  pub members_begin : (xs ys : List Member) (r : List ℕ) → length xs ≤ length ys → All Fits xs → All Fits ys → All IsMember ys → flat_map text xs ++ r ≡ flat_map text ys → Begin xs ys r
  members_begin [] ys r le fits fits' are e = record { behind = ys; is = refl; rest = e; are = are }
  members_begin (x ∷ xs) [] r le fits fits' are e = absurd (omega arith)
  members_begin (x ∷ xs) (y ∷ ys) r le fits fits' are e =
      let regrouped = sym (append_assoc (text x) (flat_map text xs) r) ∙ e in
      let first = member_apart x y (flat_map text xs ++ r) (flat_map text ys) (All-head Fits x xs fits) (All-head Fits y ys fits') regrouped in
      let more = members_begin xs ys r (omega arith) (All-tail Fits x xs fits) (All-tail Fits y ys fits') (All-tail IsMember y ys are) first.1 in
      let head_is = sym first.0 in
      let tail_is = more.is in
      record { behind = more.behind; is = λ i. head_is i ∷ tail_is i; rest = more.rest; are = more.are }

  -- a number and a byte behind a prefix
  heads_apart : (p : List ℕ) (e c e' c' : ℕ) (r s : List ℕ) → e < 256 ^ n → e' < 256 ^ n → ((p ++ big_bytes n e) ++ c ∷ []) ++ r ≡ ((p ++ big_bytes n e') ++ c' ∷ []) ++ s → (e ≡ e') × (c ≡ c') × (r ≡ s)
  heads_apart p e c e' c' r s fits fits' same =
      let regrouped : (x y : ℕ) (l : List ℕ) → ((p ++ big_bytes n x) ++ y ∷ []) ++ l ≡ p ++ (big_bytes n x ++ (y ∷ l)) = λ x y l.
      append_assoc (p ++ big_bytes n x) (y ∷ []) l ∙ append_assoc p (big_bytes n x) (y ∷ l) in
      let tails = append_cancel_left p (big_bytes n e ++ (c ∷ r)) (big_bytes n e' ++ (c' ∷ s)) (sym (regrouped e c r) ∙ same ∙ regrouped e' c' s) in
      let epochs = numbers_apart e e' (c ∷ r) (c' ∷ s) fits fits' tails in
      let behind = epochs.1 in
      let counts : c ≡ c' = cc in
      let rests : r ≡ s = cc in
      (epochs.0, counts, rests)

members_fit : (members : List Member) → All IsMember members → All (Fits 8) members
members_fit members are = λ k d lt. omega (arith, (are k d lt).incarnation)

-- two headers in front of something
pub headers_apart : (e c e' c' : ℕ) (r s : List ℕ) → e < 2 ^ 63 → e' < 2 ^ 63 → header_encoding e c ++ r ≡ header_encoding e' c' ++ s → (e ≡ e') × (c ≡ c') × (r ≡ s)
headers_apart e c e' c' r s fits fits' same = heads_apart 8 (codes "CRAQCONF" ++ big_bytes 4 1) e c e' c' r s (omega arith) (omega arith) same

-- the members that members begin with, encoded in eight bytes each
begin : (xs ys : List Member) (r : List ℕ) → length xs ≤ length ys → All IsMember xs → All IsMember ys → flat_map member_encoding xs ++ r ≡ flat_map member_encoding ys → Begin 8 xs ys r
begin xs ys r le are are' e = members_begin 8 xs ys r le (members_fit xs are) (members_fit ys are') are' e

-- behind members there is another, where there are to be more
pub none_behind : (count : ℕ) (bytes rest : List ℕ) (xs : List Member) → length xs < count → All IsMember xs → bytes ≡ flat_map member_encoding xs ++ rest → HasNoMember rest → (ys : List Member) → AreEncoded count bytes ys → ⊥
none_behind count bytes rest xs lt are is none ys encoded = no_more b.behind b.is b.rest b.are
  where
    b : Begin 8 xs ys rest
    b = begin xs ys rest (omega (arith, encoded.counted)) are encoded.are (sym is ∙ encoded.encoded)

    no_more : (behind : List Member) → ys ≡ xs ++ behind → rest ≡ flat_map member_encoding behind → All IsMember behind → ⊥
    no_more [] whole e are' = omega (arith, ap length whole, length-append {A = Member}, encoded.counted)
    no_more (z ∷ zs) whole e are' = none z (flat_map member_encoding zs) (All-head IsMember z zs are') e

-- behind all members there is nothing
pub nothing_behind : (count : ℕ) (bytes rest : List ℕ) (xs : List Member) → length xs ≡ count → All IsMember xs → bytes ≡ flat_map member_encoding xs ++ rest → 0 < length rest → (ys : List Member) → AreEncoded count bytes ys → ⊥
nothing_behind count bytes rest xs counted are is some ys encoded = no_more b.behind b.is b.rest
  where
    b : Begin 8 xs ys rest
    b = begin xs ys rest (omega (arith, encoded.counted)) are encoded.are (sym is ∙ encoded.encoded)

    no_more : (behind : List Member) → ys ≡ xs ++ behind → rest ≡ flat_map member_encoding behind → ⊥
    no_more [] whole e = omega (arith, ap length e)
    no_more (z ∷ zs) whole e = omega (arith, ap length whole, length-append {A = Member}, encoded.counted)

-- as many members that are encoded alike are the same
same_members : (xs ys : List Member) → length xs ≡ length ys → All IsMember xs → All IsMember ys → flat_map member_encoding xs ≡ flat_map member_encoding ys → ys ≡ xs
same_members xs ys counted are are' e = no_more b.behind b.is
  where
    b : Begin 8 xs ys []
    b = begin xs ys [] (omega arith) are are' (append-nil (flat_map member_encoding xs) ∙ e)

    no_more : (behind : List Member) → ys ≡ xs ++ behind → ys ≡ xs
    no_more [] whole = whole ∙ append-nil xs
    no_more (z ∷ zs) whole = absurd (omega (arith, ap length whole, length-append {A = Member}))

-- bytes that begin with no header encode no record
pub headless : (bytes : List ℕ) → HasNoHeader bytes → (r : Record) → IsEncoding bytes r → ⊥
unfolding record_encoding
headless bytes none r encodes = none r.epoch (length r.members) (flat_map member_encoding r.members) encodes.is.epoch encodes.encoded

module _ (bytes behind : List ℕ) (epoch count : ℕ) (header : bytes ≡ header_encoding epoch count ++ behind) (within : epoch < 2 ^ 63) where
  -- a header and the members behind it encode a record
  pub record_is : (members : List Member) → AreEncoded count behind members → AreMembers members → IsEncoding bytes (record { epoch = epoch; members = members })
  unfolding record_encoding
  record_is members encoded chain = record {
    is = record { epoch = within; members = encoded.are; chain = chain };
    encoded = header ∙ ap (λ (l : List ℕ). header_encoding epoch count ++ l) encoded.encoded ∙ ap (λ (n : ℕ). header_encoding epoch n ++ flat_map member_encoding members) (sym encoded.counted);
  }

  -- a record that is encoded has this header
  header_of : (r : Record) → IsEncoding bytes r → (epoch ≡ r.epoch) × (count ≡ length r.members) × (behind ≡ flat_map member_encoding r.members)
  unfolding record_encoding
  header_of r encodes = headers_apart epoch count r.epoch (length r.members) behind (flat_map member_encoding r.members) within encodes.is.epoch (sym header ∙ encodes.encoded)

  -- and so there is none where no members are encoded
  pub memberless : ((members : List Member) → AreEncoded count behind members → ⊥) → (r : Record) → IsEncoding bytes r → ⊥
  memberless never r encodes =
      let (epoch_is, counted, behind_is) = header_of r encodes in
      never r.members (record { counted = sym counted; are = encodes.is.members; encoded = behind_is })

  -- and the members are those that are encoded
  pub record_only : (members : List Member) → AreEncoded count behind members → (r : Record) → IsEncoding bytes r → r ≡ record { epoch = epoch; members = members }
  record_only members encoded r encodes =
      let (epoch_is, counted, behind_is) = header_of r encodes in
      let is = sym epoch_is in
      let are = same_members members r.members (encoded.counted ∙ counted) encoded.are encodes.is.members (sym encoded.encoded ∙ behind_is) in
      λ i. record { epoch = is i; members = are i }

-- no two records have one encoding
pub records_apart : (some other : Record) → IsRecord some → IsRecord other → record_encoding some ≡ record_encoding other → some ≡ other
unfolding record_encoding
records_apart some other is is' e =
    record_only (record_encoding other) (flat_map member_encoding other.members) other.epoch (length other.members) refl is'.epoch other.members
    (record { counted = refl; are = is'.members; encoded = refl }) some (record { is = is; encoded = sym e })

-- bytes are their first twelve and what follows
pub behind_prefix : (n : ℕ) (bytes prefix : List ℕ) → length prefix ≡ n → pointwise nat_eq (take n bytes) prefix ≡ true → bytes ≡ prefix ++ drop n bytes
behind_prefix n bytes prefix is same = sym (take-append-drop n bytes) ∙ ap (λ (l : List ℕ). l ++ drop n bytes) (same_text (take n bytes) prefix (sym same))

-- the bytes of a slice's front are bytes
pub IsBytes-take : (n : ℕ) (bytes : List ℕ) → ((i : ℕ) → get_or bytes i 0 < 256) → (i : ℕ) → get_or (take n bytes) i 0 < 256
IsBytes-take n bytes fits i =
    elim (cases_lt i n) [
      | inl lt ↦ subst (λ (z : ℕ). z < 256) (sym (get_or-take n bytes i 0 lt)) (fits i)
      | inr le ↦ subst (λ (z : ℕ). z < 256) (sym (get_or_past (take n bytes) i 0 (omega (arith, length-take n bytes)))) (omega arith)
    ]

-- a number's bytes in front, and what follows
pub number_in_front : (n x : ℕ) (bytes front behind : List ℕ) → big_bytes n x ≡ front → front ≡ take n bytes → behind ≡ drop n bytes → bytes ≡ big_bytes n x ++ behind
number_in_front n x bytes front behind is front_is behind_is =
    sym (ap (λ (l : List ℕ). l ++ behind) (is ∙ front_is) ∙ ap (λ (l : List ℕ). take n bytes ++ l) behind_is ∙ take-append-drop n bytes)

-- the pieces of a header, one behind the other
pub header_found : (bytes behind after rest : List ℕ) (number epoch count : ℕ) → pointwise nat_eq (take 12 bytes) (codes "CRAQCONF" ++ big_bytes 4 1) ≡ true → behind ≡ drop 12 bytes → behind ≡ big_bytes 8 number ++ after → after ≡ count ∷ rest → epoch ≡ number → bytes ≡ header_encoding epoch count ++ rest
header_found bytes behind after rest number epoch count same is is_number is_count is_epoch =
    behind_prefix 12 bytes (codes "CRAQCONF" ++ big_bytes 4 1) refl same
    ∙ ap (λ (l : List ℕ). (codes "CRAQCONF" ++ big_bytes 4 1) ++ l) (sym is ∙ is_number ∙ ap (λ (l : List ℕ). big_bytes 8 number ++ l) is_count)
    ∙ ap (λ (n : ℕ). (codes "CRAQCONF" ++ big_bytes 4 1) ++ (big_bytes 8 n ++ (count ∷ rest))) (sym is_epoch)

-- one more member is encoded behind those before it
pub encoded_more : (head old new : List ℕ) (members : List Member) (i : ℕ) (here : Member) → i < length members → here ≡ get_or members i here → old ≡ head ++ flat_map member_encoding (take i members) → new ≡ (old ++ here.slot ∷ []) ++ big_bytes 8 here.incarnation → new ≡ head ++ flat_map member_encoding (take (i + 1) members)
encoded_more head old new members i here lt is_here is is_new =
    let before = flat_map member_encoding (take i members) in
    let more : flat_map member_encoding (take (i + 1) members) ≡ before ++ member_encoding here =
    ap (flat_map member_encoding) (take_more members i here lt) ∙ flat_map-append member_encoding (take i members) (get_or members i here ∷ [])
    ∙ ap (λ (l : List ℕ). before ++ l) (append-nil (member_encoding (get_or members i here)) ∙ ap member_encoding (sym is_here)) in
    is_new ∙ append_assoc old (here.slot ∷ []) (big_bytes 8 here.incarnation) ∙ ap (λ (l : List ℕ). l ++ member_encoding here) is ∙ append_assoc head before (member_encoding here) ∙ ap (λ (l : List ℕ). head ++ l) (sym more)

module _ {E : Type 0} (bytes : List ℕ) (r : Record) where
  -- a record that was made, or none
  pub kept_found : (made : Result Record E) (kept : Option Record) → kept ≡ result_ok made → IfOk made (λ x. x ≡ r) → OnOk made (AreMembers r.members) → (AreMembers r.members → IsEncoding bytes r) → IfSome kept (IsEncoding bytes)
  kept_found (Ok x) kept is value are encodes = subst (λ (o : Option Record). IfSome o (IsEncoding bytes)) (sym is) (subst (IsEncoding bytes) (sym value) (encodes are))
  kept_found (Err e) kept is value are encodes = subst (λ (o : Option Record). IfSome o (IsEncoding bytes)) (sym is) tt

  pub kept_exact : (made : Result Record E) (kept : Option Record) → kept ≡ result_ok made → IfOk made (λ x. x ≡ r) → IsOk made → kept ≡ Some r
  kept_exact (Ok x) kept is value ok = is ∙ ap (λ (y : Record). Some y) value
  kept_exact (Err e) kept is value ok = absurd cc

-- The encoding of a record, and what makes members a chain.
use Rattle.std.specs.Prelude.{◌≡◌, ◌≢◌, ℕ, ◌^◌, ◌<◌, ◌≤◌, List, [], ◌∷◌, ◌++◌, length, All, AllPairs, codes}
use Rattle.std.specs.List.{flat_map}
use Rattle.byteorder.specs.Endian.{big_bytes}
use Rattle.configurations.specs.declared.member.Member.{Member}

-- an epoch, and the members of the chain in its order
pub record Record : Type 0 where
  pub epoch : ℕ
  pub members : List Member

-- one to eight members, no slot twice
pub record AreMembers (members : List Member) : Type 0 where
  pub some : 0 < length members
  pub few : length members ≤ 8
  pub once : AllPairs (λ a b. a.slot ≢ b.slot) members

-- a member with numbers that slots and incarnations have
pub record IsMember (member : Member) : Type 0 where
  pub slot : member.slot < 8
  pub incarnation : member.incarnation < 2 ^ 63

-- a record with numbers that epochs and members have
pub record IsRecord (r : Record) : Type 0 where
  pub epoch : r.epoch < 2 ^ 63
  pub members : All IsMember r.members
  pub chain : AreMembers r.members

-- the slot in one byte, the incarnation in eight
abbrev pub member_encoding : Member → List ℕ
member_encoding member = member.slot ∷ big_bytes 8 member.incarnation

-- the magic, version 1 in four bytes, the epoch in eight, how many members there are in one
abbrev pub header_encoding : ℕ → ℕ → List ℕ
header_encoding epoch count = codes "CRAQCONF" ++ big_bytes 4 1 ++ big_bytes 8 epoch ++ count ∷ []

-- the header, and the members in the chain's order
unfoldable pub record_encoding : Record → List ℕ
record_encoding r = header_encoding r.epoch (length r.members) ++ flat_map member_encoding r.members

-- the bytes are the encoding of this record
pub record IsEncoding (bytes : List ℕ) (r : Record) : Type 0 where
  pub is : IsRecord r
  pub encoded : bytes ≡ record_encoding r

-- bytes that begin with no header
abbrev pub HasNoHeader : List ℕ → Type 0
HasNoHeader bytes = (epoch count : ℕ) (rest : List ℕ) → epoch < 2 ^ 63 → bytes ≡ header_encoding epoch count ++ rest → ⊥

-- bytes that begin with no member
abbrev pub HasNoMember : List ℕ → Type 0
HasNoMember bytes = (member : Member) (rest : List ℕ) → IsMember member → bytes ≡ member_encoding member ++ rest → ⊥

-- the bytes are the encodings of so many members
pub record AreEncoded (count : ℕ) (bytes : List ℕ) (members : List Member) : Type 0 where
  pub counted : length members ≡ count
  pub are : All IsMember members
  pub encoded : bytes ≡ flat_map member_encoding members

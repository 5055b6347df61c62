-- What a block is to hold: bytes, or zeros, of which no byte is kept.
use Rattle.std.specs.Prelude.{◌≡◌, ℕ, ◌==◌, false, Bool, List, length, replicate, ⊤}
use Rattle.std.specs.List.{list_all}
use Rattle.gate_journal.specs.declared.image.Content.{Content}
use Rattle.gate_journal.specs.declared.image.Content.TheVariants.{Whole, Zeros}

-- a block's number and its bytes
pub record Image : Type 0 where
  pub block : ℕ
  pub bytes : List ℕ

-- all of these bytes are zero
abbrev pub is_zeros : List ℕ → Bool
is_zeros bytes = list_all (λ byte. byte == 0) bytes

-- what is kept comes to
abbrev pub bytes_of : Content → List ℕ
bytes_of (Whole bytes) = bytes
bytes_of Zeros = replicate 4096 0

-- zeros alone aren't kept
abbrev pub IsContent : Content → Type 0
IsContent (Whole bytes) = (length bytes ≡ 4096) × (is_zeros bytes ≡ false)
IsContent Zeros = ⊤

-- What stands behind a superblock's header, as numbers.
use Rattle.std.specs.Prelude.{◌≡◌, ℕ, List, [], ◌∷◌, ◌++◌}
use Rattle.byteorder.specs.Endian.{big_bytes}
use Rattle.home_blocks.specs.Area.{area_number}
use Rattle.home_blocks.specs.Progress.{progress_number}
use Rattle.home_blocks.specs.Superblock.{IsSuperblock, Superblock}
use Rattle.home_blocks.specs.declared.fields.Fields.{Fields}

-- one number behind the other
abbrev pub numbers_encoding : Fields → List ℕ
numbers_encoding n = n.progress ∷ n.slot ∷ big_bytes 8 n.incarnation
    ++ (big_bytes 4 n.blocks ++ big_bytes 4 n.area ++ big_bytes 4 n.max_payload) ++ big_bytes 8 n.front ++ n.current ∷ []

-- the numbers of a superblock
abbrev pub numbers_of : Superblock → Fields
numbers_of sb = record {
  progress = progress_number sb.progress;
  slot = sb.slot;
  incarnation = sb.incarnation;
  blocks = sb.geometry.blocks;
  area = sb.geometry.area;
  max_payload = sb.geometry.max_payload;
  front = sb.front;
  current = area_number sb.current;
}

-- they are those of this superblock
pub record IsOf (fields : Fields) (sb : Superblock) : Type 0 where
  pub is : IsSuperblock sb
  pub numbers : fields ≡ numbers_of sb

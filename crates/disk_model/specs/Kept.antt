-- A content that stays as it is.
use Rattle.std.specs.Prelude.{◌≡◌}
use Rattle.disk_model.specs.declared.content.Content.{Content}

-- nothing was done to it
pub record IsSame (old new : Content) : Type 0 where
  pub base : new.base.items ≡ old.base.items
  pub log : new.log.items ≡ old.log.items
  pub bytes : new.bytes.items ≡ old.bytes.items
  pub loose : new.loose.items ≡ old.loose.items
  pub waits : new.waits ≡ old.waits
  pub unsynced : new.unsynced.items ≡ old.unsynced.items

-- What of a content waits for a sync.
use Rattle.std.specs.Prelude.{List}
use Rattle.disk_model.specs.Content.{ranges_from, unsynced_in}
use Rattle.disk_model.specs.declared.content.Content.{Content}
use Rattle.disk_model.specs.declared.content.Extent.{Extent}

-- the ranges that waited at the beginning
abbrev pub waiting_first : Content → List Extent
waiting_first content = ranges_from 0 content.loose.items

-- the ranges that wait now
abbrev pub waiting_now : Content → List Extent
waiting_now content = unsynced_in content.waits content.loose.items content.unsynced.items

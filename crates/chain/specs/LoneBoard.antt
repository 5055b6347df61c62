-- A board with one seat, as a chain sees it: the ten words.
use Rattle.std.specs.Prelude.{ℕ, List, [], ◌∷◌, min, max, map, drop, slice_index, slice_set}
use Rattle.board.specs.Mask.{with_slot, without_slot}
use Rattle.board.specs.Seats.{BoardId, FoundGauge as GaugeOfSeat}
use Rattle.gate_journal.specs.Receipt.{Receipt}

-- the ten words: the committed front, the mask of counted slots, the durable front of each slot
pub record Words : Type 0 where
  pub front : ℕ
  pub mask : ℕ
  pub gauges : List ℕ

-- a board with one seat: which it is, the seat's number, and the ten words
pub record Lone : Type 0 where
  pub id : BoardId
  pub seat : ℕ
  pub words : Words

-- a slot's durable front as it was found
pub record FoundGauge : Type 0 where
  pub slot : ℕ
  pub front : ℕ

-- the ten words in order
abbrev pub words_of : List ℕ → Words
words_of words = record { front = slice_index words 0; mask = slice_index words 1; gauges = drop 2 words }

-- a gauge without whose it is
abbrev pub gauge_of : GaugeOfSeat → FoundGauge
gauge_of gauge = record { slot = gauge.slot; front = gauge.front }

-- gauges without whose they are
abbrev pub gauges_of : List GaugeOfSeat → List FoundGauge
gauges_of gauges = map gauge_of gauges

-- the words once the front is raised to n
abbrev pub raised : Words → ℕ → Words
raised words n = record words { front = max words.front n }

-- the words once the receipt is posted: its slot's gauge is raised to its front
abbrev pub posted : Words → Receipt → Words
posted words receipt =
    let gauge = max (slice_index words.gauges receipt.slot) receipt.front in
    record words { gauges = slice_set words.gauges receipt.slot gauge }

-- the words once the slot is counted
abbrev pub counted_in : Words → ℕ → Words
counted_in words slot = record words { mask = with_slot words.mask slot }

-- the words once the slot is counted no longer
abbrev pub counted_out : Words → ℕ → Words
counted_out words slot = record words { mask = without_slot words.mask slot }

-- the gauge of this slot, found in these words
abbrev pub gauge_in : Words → ℕ → FoundGauge
gauge_in words slot = record { slot = slot; front = slice_index words.gauges slot }

-- the least of a front and of the gauges' fronts
abbrev pub least_of : ℕ → List FoundGauge → ℕ
least_of front [] = front
least_of front (gauge ∷ gauges) = min gauge.front (least_of front gauges)

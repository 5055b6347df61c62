-- The links of a chain: from each of eight slots to each.
use Rattle.std.specs.Prelude.{if◌then◌else◌, ℕ, ◌+◌, ◌*◌, nat_lt, List, [], All, slice_index_or}
use Rattle.chain_steps.specs.declared.message.Envelope.{Envelope}
use Rattle.chain_core.specs.Node.{IsInside}

-- what is on its way from one slot to another
abbrev pub link_at : List (List Envelope) → ℕ → ℕ → List Envelope
link_at links from to = if nat_lt to 8 then slice_index_or links (8 * from + to) [] else []

-- each write on its way lies in a volume of so many bytes, and has at least one
abbrev pub AreInside : ℕ → List (List Envelope) → Type 0
AreInside size links = All (All (λ e. IsInside size e.message)) links

-- What contracts see of a request.
use Rattle.std.specs.Prelude.{ℕ, Option, None, Some}
use Rattle.world_model.specs.declared.request.Kind.{Kind}
use Rattle.world_model.specs.declared.request.Kind.TheVariants as kinds
use Rattle.world_model.specs.Event.{Request, Read, Write, Fua, Flush}

-- the request of this kind
abbrev pub request_of : Kind → Request
request_of (kinds.Read offset len) = Read offset len
request_of (kinds.Write write) = Write write
request_of (kinds.Fua write) = Fua write
request_of kinds.Flush = Flush

-- the offset and length that a READ asks for
abbrev pub range_asked : Request → Option (ℕ × ℕ)
range_asked (Read offset len) = Some (offset, len)
range_asked (Write write) = None
range_asked (Fua write) = None
range_asked Flush = None

-- The first record of stores on new disks: lemmas.
use Rattle.std.proofs.Common.{◌≡◌, ℕ, List, map, ap, sym, ◌∙◌}
use Rattle.std.specs.List.{range_with_len}
use Rattle.std.proofs.lemmas.Simd.{map-map}
use Rattle.chain.specs.Opening.{recorded_in}
use Rattle.configurations.specs.Record.{Record}
use Rattle.configurations.specs.declared.member.Member.{Member}
use Rattle.local_store.specs.About.{About}
use Rattle.volume.specs.declared.geometry.Geometry.{Geometry}
use Rattle.life.specs.Begun.{first_about}
use Rattle.life.specs.Headline.{first_record}

-- the member of a store that tells this
abbrev member_in : About → Member
member_in a = record { slot = a.slot; incarnation = a.incarnation }

-- stores on new disks are recorded as the first record has their members
pub first_recorded : {S : Type 0} (about : S → About) (geometry : Geometry) (n : ℕ) (stores : List S) → map about stores ≡ map (first_about geometry) (range_with_len 0 n)
    → (epoch : ℕ) (r : Record) → epoch ≡ 1 → r ≡ record { epoch = epoch; members = map (recorded_in about) stores } → r ≡ first_record n
first_recorded about geometry n stores are epoch r one is =
    is ∙ ap (λ (e : ℕ). record { epoch = e; members = map (recorded_in about) stores }) one
    ∙ ap (λ (ms : List Member). record { epoch = 1; members = ms }) (sym (map-map member_in about stores) ∙ ap (map member_in) are ∙ map-map member_in (first_about geometry) (range_with_len 0 n))

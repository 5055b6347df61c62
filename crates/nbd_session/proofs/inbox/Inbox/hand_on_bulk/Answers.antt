use Rattle.std.proofs.Common.{rules, ◌≡◌, ◌<◌, ◌++◌, ◌∷◌, [], length, map, refl}
use Rattle.std.proofs.lemmas.List.{length-map}
use Rattle.nbd_session.specs.declared.wanted.Loaded.{Loaded}
use Rattle.nbd_session.specs.Intake.{loaded_view, wanted_view}
use Rattle.nbd_session.proofs.Requests.{bulk_in_place}
use Rattle.nbd_session.proofs.inbox.Inbox.hand_on_bulk.Goals as goal

pub index_mut-requires : goal.index_mut-requires
index_mut-requires c =
    let g = wanted_view c.args.self.now in
    let bulk = c.args.bulk in
    let empty : Loaded = record { cookie = bulk.cookie; ask = bulk.ask; payload = [] } in
    let first : map loaded_view c.copy.new.loaded.items ≡ map g c.args.before.now = search rules in
    let all : map loaded_view c.copy-2.new.loaded.items ≡ map loaded_view (c.copy.new.loaded.items ++ empty ∷ []) ++ map g c.args.behind.now = search rules in
    let within = bulk_in_place (map g c.args.before.now) (map g c.args.behind.now) (loaded_view empty) (length c.args.before.now) c.copy.new.loaded.items c.copy-2.new.loaded.items empty empty (length-map c.args.before.now g) first all refl in
    let below : length c.args.before.now < length c.copy-2.new.loaded.items = within.0 in
    search rules

pub returns-clause-loaded : goal.returns-clause-loaded
returns-clause-loaded c =
    let g = wanted_view c.args.self.now in
    let bulk = c.args.bulk in
    let empty : Loaded = record { cookie = bulk.cookie; ask = bulk.ask; payload = [] } in
    let one : Loaded = record { cookie = bulk.cookie; ask = bulk.ask; payload = c.in_ok-payload.payload } in
    let first : map loaded_view c.copy.new.loaded.items ≡ map g c.args.before.now = search rules in
    let all : map loaded_view c.copy-2.new.loaded.items ≡ map loaded_view (c.copy.new.loaded.items ++ empty ∷ []) ++ map g c.args.behind.now = search rules in
    let same : loaded_view one ≡ g bulk = search rules in
    (bulk_in_place (map g c.args.before.now) (map g c.args.behind.now) (g bulk) (length c.args.before.now) c.copy.new.loaded.items c.copy-2.new.loaded.items empty one (length-map c.args.before.now g) first all same).1

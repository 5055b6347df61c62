use Rattle.std.proofs.Common.{◌≡◌, ◌≤◌, ◌*◌, [], length, map, take, vec_len, vec_capacity}
use Rattle.std.specs.List.{AllZip, range_with_len}
use Rattle.volume.specs.Writes.{volume_of}
use Rattle.world_model.specs.Machine.{State, start}
use Rattle.life.specs.Begun.{AllGo, AreOnDisks, BeginsWith, export_of, first_about, stores_of}
use Rattle.life.specs.Headline.{first_record}
use Rattle.life.specs.Lived.{IsFresh}
use Rattle.life.specs.Managed.{AreDated, IsAtRest, Managed, NoImpostor}
use Rattle.life.specs.declared.era.Answers.{Answers}
use Rattle.life.specs.declared.era.Era.{Era}
use Rattle.life.proofs.Starting.{ErasOnDisks, IsStore, about_of_store, disk_in, keeps_volume, leaves_now}
use Rattle.life.proofs.living.live.Given as goal

abbrev pub invariant-loop-era : goal.invariant-loop-era
invariant-loop-era l = record {
  disks : AreOnDisks about_of_store l.managed.world;
  go : AllGo disk_in l.managed;
  rests : IsAtRest l.managed;
  impostors : NoImpostor l.managed;
  dated : AreDated about_of_store l.managed;
  first : Managed IsStore;
  slots : map about_of_store (stores_of first.world) ≡ map (first_about l.fn.geometry) (range_with_len 0 l.fn.members);
  begins : BeginsWith about_of_store keeps_volume leaves_now l.fn.geometry 0 (volume_of (4096 * l.fn.geometry.blocks) []) first.world;
  recorded : first.world.chain.recorded ≡ first_record l.fn.members;
  rested : IsAtRest first;
  nobody : first.outside ≡ [];
  state : State;
  leads : ErasOnDisks (export_of l.fn.geometry) (take l.era-index l.fn.eras) l.answers.items first start l.managed state;
  fresh : IsFresh about_of_store keeps_volume leaves_now (4096 * l.fn.geometry.blocks) (export_of l.fn.geometry) l.managed.world state;
  all : AllZip (λ (era : Era) (answers : Answers). length answers.items.items ≤ length era.deeds.items) (take l.era-index l.fn.eras) l.answers.items;
  many : length l.answers.items ≡ l.era-index;
  count : vec_len l.answers ≡ l.era-index;
  room : length l.fn.eras ≤ vec_capacity l.answers;
}

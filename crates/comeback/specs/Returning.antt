-- What contracts see of a chain that comes back.
use Rattle.std.specs.Prelude.{◌≡◌, ℕ, Bool, false, None, List, [], ◌∷◌, length, map, replicate}
use Rattle.configurations.specs.Record.{Record}
use Rattle.manager.specs.Manager as managers
use Rattle.folder.specs.Chain.{HasRecord, alone_after}
use Rattle.folder.specs.Disks.{IsSourceOf, member_of}
use Rattle.local_store.specs.About.{About}
use Rattle.local_store.specs.Meaning.{Meaning}
use Rattle.chain.specs.Chain.{Chained}
use Rattle.world.specs.Management.{Managing}
use Rattle.world.specs.World.{Seen}
use Rattle.joining.specs.Rebuilding.{AllKeep, IsQuiet}

-- its world, its manager with the configuration's disk, and whether a disk couldn't be rebuilt
pub record Returning (S D : Type 0) : Type 0 where
  pub world : Seen S
  pub management : Managing D
  pub failed : Bool

-- what holds of each: nothing is under way, unless a disk couldn't be rebuilt
abbrev pub IsReady : {S D : Type 0} → Returning S D → Type 0
IsReady c = c.failed ≡ false → IsQuiet c.world.chain

-- the chain begins with this record, and with this store alone
pub record IsSet {S : Type 0} (about : S → About) (told : Record) (store : S) (c : Chained S) : Type 0 where
  pub recorded : c.recorded ≡ told
  pub front : c.words.front ≡ (about store).front
  pub sizes : c.geometry ≡ (about store).geometry
  pub one : map (λ m. m.node.store) c.members ≡ store ∷ []
  pub quiet : IsQuiet c

-- what a manager knows of a chain with this record, of which no member has stopped, with no change under way
abbrev pub at_rest : Record → managers.State
at_rest r = record { chain = r; stopped = replicate 8 false; joining = None; coming = r.members; begun = false; left = [] }

-- it has no clients, nobody joins it, and no record is being written
pub record IsIdle {S : Type 0} (w : Seen S) : Type 0 where
  pub clients : w.sessions.clients ≡ []
  pub joiner : w.joiner ≡ None
  pub writing : w.chain.writing ≡ None

-- The configuration's disk had recorded a chain, and the disk at this place is the source among these for it. The chain begins at the front
-- that this disk means, alone, with the sizes and the volume there; recorded now is its member alone, in the next epoch.
pub record ComesBack {S : Type 0} (keeps : S → List ℕ → Type 0) (config : List ℕ) (disks : List (List ℕ)) (place : ℕ) (c : Chained S) : Type 0 where
  pub old : Record
  pub recorded : HasRecord old config
  pub meaning : Meaning
  pub source : IsSourceOf old.members disks place meaning
  pub front : c.words.front ≡ meaning.front
  pub sizes : c.geometry ≡ meaning.geometry
  pub alone : length c.members ≡ 1
  pub keep : AllKeep keeps meaning.volume c
  pub next : c.recorded ≡ alone_after old (member_of meaning)

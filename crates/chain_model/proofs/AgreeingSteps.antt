-- At one front all disks of a chain have the same bytes: lemmas.
use Rattle.std.proofs.Common.{◌≡◌, ℕ, zero, suc, ◌≤◌, true, List, [], ◌∷◌, ◌++◌, sym, ◌∙◌, ap, subst, arith}
use Rattle.std.specs.Prelude.{fold}
use Rattle.std.specs.List.{Contains}
use Rattle.version_table.specs.Held.{writes_upto}
use Rattle.volume.specs.Writes.{patched}
use Rattle.world_model.specs.Machine.{State, machine_volume}
use Rattle.chain_model.proofs.BoardSteps.{is_on_each_disk}
use Rattle.chain_model.specs.Chain.{StandsFor}
use Rattle.chain_model.specs.Laws.{DisksAgree, JoinerAgrees, with_members}
use Rattle.chain_model.specs.View.{Member, View, may_be_recorded}

-- a member among others stands between them
between : (ms : List Member) (m : Member) → Contains ms m → (above below : List Member) × (ms ≡ above ++ m ∷ below)
between [] m (k, lt, is) = absurd (omega arith)
between (x ∷ xs) m (zero, lt, is) = ([], xs, ap (λ (y : Member). y ∷ xs) is)
between (x ∷ xs) m (suc k, lt, is) = let (above, below, same) = between xs m (k, omega arith, is) in (x ∷ above, below, ap (λ (l : List Member). x ∷ l) same)

-- its volume at a front is the machine's
is_of_machine : (size : ℕ) (v : View) (m : Member) (s : State) (p : ℕ) → StandsFor size v s → Contains v.members m → may_be_recorded v.recorded v.writing m.node ≡ true → m.node.table.forgotten ≤ p → p ≤ m.node.known
    → fold patched m.volume (writes_upto m.node.table p) ≡ machine_volume size s p
is_of_machine size v m s p stands among may from upto =
    let (above, below, are) = between v.members m among in
    (is_on_each_disk size v above m below s p (subst (λ (ms : List Member). StandsFor size (with_members v ms) s) are stands) may from upto).2

pub disks_agree : DisksAgree
disks_agree size v one other s p stands first second may_one may_other from upto from_other upto_other =
    is_of_machine size v one s p stands first may_one from upto ∙ sym (is_of_machine size v other s p stands second may_other from_other upto_other)

pub joiner_agrees : JoinerAgrees
joiner_agrees size v j m s stands here among may from upto = (stands.1 j here).volume ∙ sym (is_of_machine size v m s j.front stands among may from upto)

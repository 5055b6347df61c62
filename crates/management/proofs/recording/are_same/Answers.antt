use Rattle.std.proofs.Common.{◌≡◌, ℕ, ◌==◌, ◌∙◌, ap}
use Rattle.std.specs.Bool.{Decides}
use Rattle.std.proofs.lemmas.Bool.Decides.{Decides-and, Decides-eqb}
use Rattle.std.proofs.lemmas.Slice.Eq.{slice_eq-Decides}
use Rattle.std.specs.Prelude.{◌&&◌}
use Rattle.configurations.specs.declared.member.Member.{Member}
use Rattle.management.proofs.recording.are_same.Goals as goal

abbrev member : ℕ → ℕ → Member
member slot incarnation = record { slot = slot; incarnation = incarnation }

-- two members are the same where their slots and their incarnations are
one_member : (a b : Member) → Decides (a.slot == b.slot && (a.incarnation == b.incarnation)) (a ≡ b)
one_member a b =
    let both = Decides-and (a.slot == b.slot) (a.incarnation == b.incarnation) (Decides-eqb a.slot b.slot) (Decides-eqb a.incarnation b.incarnation) in (
      λ is. ap (λ (s : ℕ). member s a.incarnation) (both.0 is).0 ∙ ap (member b.slot) (both.0 is).1,
      λ same. both.1 (ap (λ (m : Member). m.slot) same, ap (λ (m : Member). m.incarnation) same),
    )

pub returns : goal.returns
returns c = slice_eq-Decides one_member c.args.one.now c.args.other.now c.eq.result c.eq.ensures

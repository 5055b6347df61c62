-- What holds of the piece of a block, whether it is given for the first time or again.
use Rattle.std.proofs.Common.{◌≡◌, inl, inr, ℕ, List, length, refl, sym, subst}
use Rattle.std.specs.Prelude.{false, nat_lt}
use Rattle.std.proofs.lemmas.Bool.{cases_lt, cond-false, cond-true, le-ltb, lt-ltb}
use Rattle.local_store.specs.Installer.{MeansNothing}
use Rattle.home_blocks.specs.Superblock.{Superblock}
use Rattle.rejoin_catchup.specs.Course.{IsWhole, IsWithin, is_end}
use Rattle.rejoin_catchup.specs.Receiving.{MayBeLeft}
use Rattle.rejoin_catchup.specs.Refusal.{IsOfTaking}
use Rattle.rejoin_catchup.specs.Sending.{Sending, piece_of}
use Rattle.rejoin_catchup.specs.declared.piece.Piece.{Piece}
use Rattle.rejoin_catchup.specs.declared.piece.Piece.TheVariants.{Again, First}
use Rattle.rejoin_catchup.specs.declared.refusal.Refusal.TheVariants.{Store}
use Rattle.local_store.specs.Refusal as store
use Rattle.local_store.specs.declared.refusal.Refusal.{Refusal}

module _ (s : Sending) (block : ℕ) (bytes : List ℕ) where
  pub at_piece : (P : Piece → Type 0) → P (First block bytes) → P (Again block bytes) → P (piece_of s block bytes)
  at_piece P first again = elim (cases_lt s.given (length s.marks)) [
    | inl some ↦ subst P (sym (cond-true (nat_lt s.given (length s.marks)) (First block bytes) (Again block bytes) (lt-ltb _ _ some))) first
    | inr all ↦ subst P (sym (cond-false (nat_lt s.given (length s.marks)) (First block bytes) (Again block bytes) (le-ltb _ _ all))) again
  ]

  pub piece_whole : length bytes ≡ 4096 → IsWhole (piece_of s block bytes)
  piece_whole whole = at_piece IsWhole whole whole

  pub piece_within : IsWithin (piece_of s block bytes)
  piece_within = at_piece IsWithin tt tt

  pub piece_goes_on : is_end (piece_of s block bytes) ≡ false
  piece_goes_on = at_piece (λ p. is_end p ≡ false) refl refl

  -- what a stop leaves while it is taken means nothing
  pub piece_leaves : (sb : Superblock) (copy c : List ℕ) → MayBeLeft sb copy (piece_of s block bytes) c → MeansNothing c
  piece_leaves sb copy c = at_piece (λ p. MayBeLeft sb copy p c → MeansNothing c) (λ nothing. nothing) (λ nothing. nothing)

  -- what it is refused with
  pub piece_refused : (r : Refusal) → IsOfTaking (piece_of s block bytes) (Store r) → store.IsOfTicking r
  piece_refused r = at_piece (λ p. IsOfTaking p (Store r) → store.IsOfTicking r) (λ told. told) (λ told. told)

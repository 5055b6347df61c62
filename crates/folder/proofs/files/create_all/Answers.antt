use Rattle.std.proofs.Common.{◌≡◌, ℕ, ◌+◌, ◌≤◌, ◌++◌, [], ◌∷◌, List, All, length, arith, ap, subst, sym, ◌∙◌}
use Rattle.std.specs.List.{range_with_len}
use Rattle.std.proofs.lemmas.List.{length-append, map-id}
use Rattle.std.proofs.lemmas.List.Elements.{All-append, All-cons, All-nil}
use Rattle.std.proofs.lemmas.List.FromFn.{map-range_with_len_more}
use Rattle.std.specs.declared.fs.File.{File}
use Rattle.disk_model.specs.File.{file_len}
use Rattle.disk_model.specs.declared.file.FileDiskOn.{FileDiskOn}
use Rattle.home_blocks.specs.Places.{disk_size_of}
use Rattle.folder.proofs.files.create_all.Goals as goal

-- one number more
range_more : (n : ℕ) → range_with_len 0 (n + 1) ≡ range_with_len 0 n ++ n ∷ []
range_more n = sym (map-id (range_with_len 0 (n + 1))) ∙ map-range_with_len_more (λ (k : ℕ). k) 0 n n (omega arith) ∙ ap (λ (l : List ℕ). l ++ n ∷ []) (map-id (range_with_len 0 n))

pub loop-number-preserved : goal.loop-number-preserved
loop-number-preserved g c =
    let inv = c.loop-number.invariant in
    let before = c.loop-number.files.disks.items in
    let disk = c.in_ok-disk.disk in
    let items = c.in-Ok.ensures.disk in
    let long = λ (one : FileDiskOn File). disk_size_of c.args.layout.geometry ≤ file_len one in
    record {
      config = ap file_len c.add.ensures.config ∙ inv.config;
      slots = c.in-Ok.ensures.slot ∙ ap (λ (l : List ℕ). l ++ c.slot_of-in-loop-number.result ∷ []) inv.slots ∙ ap (λ (s : ℕ). range_with_len 0 c.loop-number.number ++ s ∷ []) c.slot_of-in-loop-number.ensures ∙ sym (range_more c.loop-number.number);
      many =
          let all : length c.add.new.self.disks.items ≡ length (before ++ disk ∷ []) = ap (λ (l : List (FileDiskOn File)). length l) items in
          let more = length-append before (disk ∷ []) in
          omega (arith, inv.many);
      long = subst (All long) (sym items) (All-append long before (disk ∷ []) inv.long (All-cons long disk [] (omega (arith, c.in_ok-disk.ensures.len, c.disk_size.ensures)) (All-nil long)));
    }

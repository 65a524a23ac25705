use Rattle.std.proofs.Common.{◌≡◌, ◌∙◌, ◌++◌, ◌∷◌, [], List, ℕ, IsTrue, true, ap, sym, subst, arith}
use Rattle.std.specs.List.{flat_map}
use Rattle.std.proofs.lemmas.List.{append_assoc}
use Rattle.disk_model.specs.Disk.{State}
use Rattle.block_tree.specs.Tree.{blocks_in, index_at, nonzero}
use Rattle.block_tree.specs.Parts.{pointers_under}
use Rattle.block_tree.proofs.ListingLaws.{listed_leaf, listed_top, listed_behind}
use Rattle.block_tree.specs.Root.{tree_indexes}
use Rattle.block_tree.specs.Causes.{IsBlockAmong}
use Rattle.place_words.specs.Different.{is_among}
use Rattle.block_tree.proofs.DamageLaws.{damage_like, top_among}
use Rattle.block_tree.proofs.listing.push_tree.Goals as goal

pub returns-then-root-eq0-clause-pushed : goal.returns-then-root-eq0-clause-pushed
returns-then-root-eq0-clause-pushed g c tells =
    let ptr : ℕ = c.args.root.now.ptr in
    c.in_ok-push_one.ensures ∙ ap (λ (h : ℕ). c.args.out.now.items ++ nonzero (pointers_under (blocks_in (g.D.Disk.state c.args.disk.now).contents) h ptr)) (sym c.if-root-eq0.true)

pub returns-then-root-eq1-clause-pushed : goal.returns-then-root-eq1-clause-pushed
returns-then-root-eq1-clause-pushed g c tells =
    let read = blocks_in (g.D.Disk.state c.args.disk.now).contents in
    let ptr : ℕ = c.args.root.now.ptr in
    let front : List ℕ = c.args.out.now.items in
    let tops : List ℕ = c.in_ok-top.top.ptrs in
    c.in_ok-push_all.ensures
    ∙ (ap (λ (xs : List ℕ). xs ++ nonzero tops) c.in_ok-push_one.ensures
    ∙ (append_assoc front (nonzero (ptr ∷ [])) (nonzero tops)
    ∙ (ap (λ (xs : List ℕ). front ++ xs) (listed_leaf ptr (index_at read ptr) tops (c.in_ok-top.ensures.entries tells).some) ∙ ap (λ (h : ℕ). front ++ nonzero (pointers_under read h ptr)) (sym c.if-root-eq1.true))))

pub returns-clause-pushed : goal.returns-clause-pushed
returns-clause-pushed g c tells =
    let read = blocks_in (g.D.Disk.state c.args.disk.now).contents in
    let ptr : ℕ = c.args.root.now.ptr in
    let front : List ℕ = c.args.out.now.items in
    let tops : List ℕ = c.in_ok-top.top.ptrs in
    let two : c.args.root.now.height ≡ 2 = omega arith in
    let level : c.push_all.new.out.items ≡ (front ++ nonzero (ptr ∷ [])) ++ nonzero tops = c.in_ok-push_all.ensures ∙ ap (λ (xs : List ℕ). xs ++ nonzero tops) c.in_ok-push_one.ensures in
    let leaves : c.push_leaves.new.out.items ≡ c.push_all.new.out.items ++ nonzero (flat_map (index_at read) tops) =
    subst (λ (s : State). c.push_leaves.new.out.items ≡ c.push_all.new.out.items ++ nonzero (flat_map (index_at (blocks_in s.contents)) tops)) (c.in_ok-top.ensures.same tells) (c.in_ok-push_leaves.ensures.pushed tells) in
    leaves
    ∙ (ap (λ (xs : List ℕ). xs ++ nonzero (flat_map (index_at read) tops)) level
    ∙ (listed_behind front (nonzero (ptr ∷ [])) (nonzero tops) (nonzero (flat_map (index_at read) tops))
    ∙ (ap (λ (xs : List ℕ). front ++ xs) (listed_top read ptr (index_at read ptr) tops (c.in_ok-top.ensures.entries tells).some) ∙ ap (λ (h : ℕ). front ++ nonzero (pointers_under read h ptr)) (sym two))))

pub returns-in_err-push_leaves-clause-among : goal.returns-in_err-push_leaves-clause-among
returns-in_err-push_leaves-clause-among g c =
    let read = blocks_in (g.D.Disk.state c.args.disk.now).contents in
    let root = c.args.root.now in
    let two : root.height ≡ 2 = omega arith in
    damage_like c.from_residual-in_err-push_leaves.result c.in_err-push_leaves.field-0.0 (IsBlockAmong 0 c.in_ok-top.top.ptrs) (λ b. IsTrue g.D.Disk.tells → is_among (tree_indexes read root) b ≡ true)
    c.from_residual-in_err-push_leaves.ensures.1 c.in_err-push_leaves.ensures.read (λ b among tells. top_among read root.height root.ptr c.in_ok-top.top.ptrs two (c.in_ok-top.ensures.entries tells) b among)

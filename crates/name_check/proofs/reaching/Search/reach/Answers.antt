use Rattle.std.proofs.Common.{◌≡◌, ◌∙◌, ◌++◌, ◌∷◌, [], true, false, cond, ap, sym}
use Rattle.std.specs.Prelude.{Bool, is_some, List, ℕ}
use Rattle.std.specs.FinSet as set
use Rattle.std.proofs.lemmas.List.{append-nil}
use Rattle.held_list.specs.Held.{slots_at}
use Rattle.name_check.specs.declared.reaching.Search.{Search}
use Rattle.name_check.proofs.ReachLaws.{search_more, reaches_one, reaches_again}
use Rattle.name_check.proofs.reaching.Search.reach.Goals as goal
use Rattle.name_check.proofs.reaching.Search.reach.Goals.{then-is_directory+in_ok-push, else-is_directory}

pub returns-then-has-clause-reaches : goal.returns-then-has-clause-reaches
returns-then-has-clause-reaches c =
    let has : set.contains c.args.self.now.reached c.args.number ≡ true = cc in
    reaches_again c.args.self.now c.args.number has

-- what the queue is behind the choice
queue_now : (c : goal.After-put) → c.if-is_directory.self.queue.items ≡ c.args.self.now.queue.items ++ cond (is_some (slots_at c.args.directories.now c.args.number)) (c.args.number ∷ []) []
queue_now c =
    let queue : List ℕ = c.args.self.now.queue.items in
    elim c.if-is_directory.branch [
      | then-is_directory+in_ok-push w ↦ (ap (λ (s : Search). s.queue.items) w.self-is ∙ w.in_ok-push.ensures.items ∙ ap (λ (t : Bool). queue ++ cond t (c.args.number ∷ []) []) w.if-is_directory.ensures)
      | else-is_directory w ↦ (ap (λ (s : Search). s.queue.items) w.self-is ∙ sym (append-nil queue) ∙ ap (λ (t : Bool). queue ++ cond t (c.args.number ∷ []) []) w.if-is_directory.ensures)
    ]

reached_now : (c : goal.After-put) → c.put.new.self ≡ set.insert c.args.self.now.reached c.args.number
reached_now c =
    c.put.ensures ∙ elim c.if-is_directory.branch [
      | then-is_directory+in_ok-push w ↦ ap (λ (s : Search). set.insert s.reached c.args.number) w.self-is
      | else-is_directory w ↦ ap (λ (s : Search). set.insert s.reached c.args.number) w.self-is
    ]

pub returns-clause-search : goal.returns-clause-search
returns-clause-search c =
    let fresh : set.contains c.args.self.now.reached c.args.number ≡ false = cc in
    search_more c.args.directories.now c.args.self.now _ c.args.number c.requires.search fresh (reached_now c) (queue_now c)

pub returns-clause-reaches : goal.returns-clause-reaches
returns-clause-reaches c =
    let fresh : set.contains c.args.self.now.reached c.args.number ≡ false = cc in
    reaches_one c.args.directories.now c.args.self.now _ c.args.number c.requires.search fresh (reached_now c) (queue_now c)

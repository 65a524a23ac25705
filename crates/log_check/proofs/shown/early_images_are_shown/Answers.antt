use Rattle.image_model.proofs.ShownEarly.{none_found_shows}
use Rattle.log_check.proofs.shown.early_images_are_shown.Goals as goal

pub returns : goal.returns
returns c = λ image nodes none holds.
    let shown = none_found_shows image none in
    (shown.0, shown.1, record { shows = shown.1.shows; is_tree = shown.1.is_tree; holds = holds shown.0.tree shown.1.held; free_is = shown.1.free })

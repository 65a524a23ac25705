use Rattle.image_rows.proofs.LogRows.{at_full_area, at_long_record, at_seventh_kind, at_spare_block, at_wanting_file}
use Rattle.image_rows.proofs.rows.bad_log_rows.Goals as goal

pub returns : goal.returns
returns c = record { found_in_seventh_kind = at_seventh_kind; found_in_wanting_file = at_wanting_file; found_in_long_record = at_long_record; found_in_full_area = at_full_area; found_in_spare_block = at_spare_block }

-- Worked values: the words of an answer, each as a line of the list has it. They are proved by computing, so a definition that is changed
-- breaks its row, whatever the code does.
use Rattle.std.specs.Prelude.{◌≡◌, refl, true, false, pos, negsuc, Some, None, codes}
use Rattle.std.specs.Fmt.{digits}
use Rattle.replaying.specs.Words.{or_none, place, part_text, two_digits, signed_or_none, flag_or_none, info_text}

none-read : or_none (λ n. Some (signed_or_none (Some n))) None ≡ Some (codes "~")
none-read = refl

number-read : or_none (λ n. Some (signed_or_none (Some n))) (Some (negsuc 4)) ≡ Some (codes "-5")
unfolding digits
number-read = refl

part-there : part_text true (place true 9 5) 2 ≡ codes "1 4 2"
unfolding digits
part-there = refl

part-not_there : part_text false (place false 0 5) 0 ≡ codes "0 0 0"
unfolding digits
part-not_there = refl

place-before_base : place true 4 5 ≡ 18446744073709551615
place-before_base = refl

digits-low : two_digits 10 ≡ codes "0a"
unfolding digits
digits-low = refl

digits-high : two_digits 165 ≡ codes "a5"
unfolding digits
digits-high = refl

info-words : info_text (record {
  version = Some (pos 3);
  timestamp = Some (negsuc 0);
  changeset = None;
  uid = Some (pos 7);
  user = None;
  visible = Some false;
}) ≡ codes "3 -1 ~ 7 ~ 0"
unfolding digits
info-words = refl

flags : flag_or_none (Some true) ≡ codes "1"
unfolding digits
flags = refl

flag-none : flag_or_none None ≡ codes "~"
flag-none = refl

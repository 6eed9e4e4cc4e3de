use Rattle.std.proofs.Common.{◌≡◌, ◌∙◌, ap, sym, List, [], ◌∷◌, String, Global, string_bytes, length, get_or, arith}
use Rattle.std.proofs.lemmas.Slice.Eq.{bytes_eq-Decides}
use Rattle.ep_top.proofs.WordLemmas.{one_word}
use Rattle.ep_top.proofs.session.is_session.Goals as goal

pub returns-in-len1-clause-yes : goal.returns-in-len1-clause-yes
returns-in-len1-clause-yes c = λ yes.
    let word = c.word-item.result in
    let one : length c.args.words.now.items ≡ 1 = omega (arith, c.in-len1.len_at_least, c.in-len1.len_below, ap (λ (l : List (String Global)). length l) c.as_slice.ensures.value) in
    let is : word ≡ get_or c.args.words.now.items 0 word = c.word-item.is ∙ ap (λ (l : List (String Global)). get_or l 0 word) c.as_slice.ensures.value in
    one_word string_bytes c.args.words.now.items word one is ∙ ap (λ bytes. bytes ∷ []) (sym c.as_str.ensures.value ∙ (bytes_eq-Decides _ _).0 (sym c.eq.ensures ∙ yes))

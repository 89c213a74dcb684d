use Rattle.std.proofs.Common.{sym, ◌∙◌}
use Rattle.word.proofs.MemoryLaws.{splice_whole}
use Rattle.layout.proofs.LayoutLaws.{length-word_bytes}
use Rattle.capi.proofs.steps.tell.Goals as goal

pub returns : goal.returns
returns c = c.store_words.ensures ∙ splice_whole c.args.told.now _ (length-word_bytes c.args.numbers.now ∙ sym c.requires)

use Rattle.capi.proofs.running.Laws.{previewed, preview_refused}
use borrow.Author.Rules.{rules}
use Rattle.capi.proofs.running.hemdroas_preview.Goals as goal

pub returns-then-copy_memory : goal.returns-then-copy_memory
returns-then-copy_memory c =
    previewed _ _ _ _ _ _ _ _ _ _ _ _ c.layout_of.ensures _ c.copy_memory.ensures.copied c.copy_memory.ensures.work
    c.store.ensures (search rules) (search rules) (search rules) _ _ _ _ c.hemdroas_run.ensures

pub returns : goal.returns
returns c =
    preview_refused _ _ _ _ _ _ _ _ _ _ _ _ c.layout_of.ensures _ c.copy_memory.ensures.copied c.copy_memory.ensures.work
    c.store.ensures (search rules) (search rules) (search rules) _ c.run_answer_of.ensures

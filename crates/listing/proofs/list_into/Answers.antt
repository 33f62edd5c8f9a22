-- `list_into`: the run, then the text by its verdict.
use borrow.Author.Rules.{rules}
use Rattle.listing.proofs.Listing.{listed_ready, listed_whole}
use Rattle.listing.proofs.list_into.Goals as goal

pub put_text-len-requires : goal.put_text-len-requires
put_text-len-requires c = listed_ready _ _ _ _ c.run_short-ran.ensures (search rules) c.requires

pub returns : goal.returns
returns c = listed_whole _ _ _ _ c.run_short-ran.ensures _ c.put_text-len.ensures

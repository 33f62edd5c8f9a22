-- The branch cache of document 000, of 256 slots.
--
--   crate_cache  ==  the cache of 256 slots: the Rust's BranchCache060
use Rattle.branch_cache.specs.declared.BranchCache060.{BranchCache060}
use Rattle.branch_cache.specs.Cache.{cache_predict_of, cache_update_of, clear_all_of, clear_user_of}
use Rattle.state.specs.Board.{CacheRule}

abbrev pub crate_cache : CacheRule
crate_cache =
    record {
      Cache = BranchCache060;
      predict = cache_predict_of;
      update = cache_update_of;
      clear_all = clear_all_of;
      clear_user = clear_user_of;
    }

mod NoneBeyond
